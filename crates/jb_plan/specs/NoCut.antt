-- Why a batch is not prepared.
use Rattle.jb_plan.specs.declared.prepared.PrepareFault.{PrepareFault}
use Rattle.jb_plan.specs.declared.prepared.PrepareFault.TheVariants.{NoCut, Memory}
use Rattle.jb_plan.specs.Batch.{Gathered}
use Rattle.jb_plan.specs.Costs.{HasCut}
use Rattle.jb_plan.specs.Prepare.{ArePricesOf}

-- no cut of the batch fits, and these are its prices; that memory ran out is no fact of the batch
abbrev pub IsRefused : Gathered → PrepareFault → Type 0
IsRefused b (NoCut prices) = (HasCut b.shape b.handles → ⊥) × ArePricesOf b prices.items
IsRefused b Memory = Unit {0}
