use Rattle.jb_commands.proofs.streams.dumping.dump_watched.Goals as goal

pub returns : goal.returns
returns g c = record { dumps = (c.dump_from-end.result, c.into_inner-reader.result.1, c.end_saying.ensures, c.dump_from-end.ensures.dumps) }
