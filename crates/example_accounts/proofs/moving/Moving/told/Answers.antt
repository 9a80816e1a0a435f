use Rattle.std.proofs.Common.{refl}
use Rattle.example_accounts.proofs.moving.Moving.told.Goals as goal

pub returns : goal.returns
returns g c = record {
  postings = c.into_postings-postings.result;
  follow = c.into_postings-postings.ensures.follow;
  seen = c.ended.ensures.seen;
  ended = c.ended.ensures.ended;
  same = refl;
}
