use Rattle.std.proofs.Common.{◌≡◌, ℕ, List, [], ◌++◌, Option, Some, None, IfSome, take, option_map, rules}
use Rattle.jb_text.proofs.reading.read_front.Goals as goal

-- a reader that was cut at a limit gave the beginning of what it had
beginning : (known : Option (List ℕ)) (text : List ℕ) (limit : ℕ) → IfSome (option_map (take limit) known) (λ xs. text ≡ [] ++ xs) → IfSome known (λ bytes. text ≡ take limit bytes)
beginning None text limit is = tt
beginning (Some xs) text limit is = is

pub returns-in-Ok-clause-front : goal.returns-in-Ok-clause-front
returns-in-Ok-clause-front g c = beginning (g.R.Read.remaining c.args.reader.now) c.read_to_end.new.buf.items c.args.limit (search rules)
