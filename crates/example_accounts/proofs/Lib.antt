mod AccountBalances
mod AccountExamples
mod ClientSteps
mod HandlesPosted
mod MoneyHeld
mod PostingPlaces
mod RunPosted
