use Rattle.example_store.proofs.CommandLemmas.{get-finds-put}
use Rattle.example_store.proofs.laws.get_finds_put.Goals as goal

pub returns : goal.returns
returns c = get-finds-put
