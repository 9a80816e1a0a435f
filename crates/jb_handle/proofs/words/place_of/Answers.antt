use Rattle.std.proofs.Common.{rules}
use Rattle.std.proofs.lemmas.List.Sorted.{answers_always}
use Rattle.jb_handle.proofs.RisingHomes.{searched}
use Rattle.jb_handle.proofs.words.place_of.Goals as goal

pub returns : goal.returns
returns c =
    let facts = c.binary_search_by_key.ensures in
    let by_key = facts.position (λ entry. entry.0) (answers_always _ _ _ (λ f a r g called. search rules)) in
    searched _ c.requires.rising c.args.home _ facts.bound by_key
