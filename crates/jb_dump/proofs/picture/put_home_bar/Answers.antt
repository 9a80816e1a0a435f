use Rattle.std.proofs.Common.{string_bytes}
use Rattle.jb_dump.proofs.PictureColumns.{framed}
use Rattle.jb_dump.proofs.picture.put_home_bar.Goals as goal

pub returns : goal.returns
returns c = framed (string_bytes c.args.text.now) _ _ _ c.in_ok-push_str.ensures.bytes c.in_ok-put_copies.ensures c.in_ok-write.ensures.bytes
