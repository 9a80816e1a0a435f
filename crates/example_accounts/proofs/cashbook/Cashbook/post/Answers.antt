use Rattle.std.proofs.Common.{◌≡◌, None, Some, sym, subst}
use Rattle.example_accounts.specs.Postings.{ArePostings, ComesAfter, last_posting}
use Rattle.example_accounts.proofs.PostingPlaces.{are-more, last-more}
use Rattle.example_accounts.proofs.cashbook.Cashbook.post.Goals as goal

pub invariant_of-self : goal.invariant_of-self
invariant_of-self g c =
    let postings = c.self.inside.postings in
    let comes : ComesAfter (last_posting None postings) c.args.posting = subst (λ ps. ComesAfter (last_posting None ps) c.args.posting) (sym c.self.view_is) c.requires.comes in
    subst (λ ps. ArePostings None ps × (Some c.args.posting ≡ last_posting None ps)) (sym c.add.ensures.whole)
    (are-more None postings c.args.posting c.self.invariant.0 c.requires.posting comes, sym (last-more None postings c.args.posting))
