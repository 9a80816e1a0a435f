use Rattle.jb_commands.proofs.files.homes.show_opened.Goals as goal

pub returns : goal.returns
returns g c = record {
  shows = rw (← c.own_among.ensures, c.in_default.is) (
    c.show_watched-told.result,
    rw (c.checksums_of.ensures, c.of-watched.ensures, ← c.into_inner.ensures) at c.show_watched-told.ensures.shows,
    c.status_end.ensures,
  );
}
