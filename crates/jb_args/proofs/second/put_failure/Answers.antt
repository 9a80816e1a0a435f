use Rattle.jb_args.proofs.second.put_failure.Goals as goal

pub returns : goal.returns
returns g c = (
  record { text = c.failure_text-text.result.now; remedy = c.advice-remedy.result.now },
  rw (c.call_name-call.ensures, c.place_text-place.ensures) at c.put_parts.ensures.puts,
)
