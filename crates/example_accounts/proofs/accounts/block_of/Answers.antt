use Rattle.std.proofs.Common.{ap, ◌∙◌}
use Rattle.std.proofs.lemmas.Nat.{from_be_bytes-to_be_bytes_8}
use Rattle.example_accounts.specs.Accounts.{balance_in}
use Rattle.example_accounts.proofs.accounts.block_of.Goals as goal

pub returns : goal.returns
returns c = ap balance_in c.put_balance.ensures.written ∙ from_be_bytes-to_be_bytes_8 c.args.balance c.put_balance.ensures.fits
