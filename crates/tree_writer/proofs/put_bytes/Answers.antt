-- The bytes are copied over the part that is as long as they are (`put-part`).
use mathlib.Core.Path.{ap, ◌∙◌}
use Prim.Native.Nat.{◌+◌, ◌-◌}
use lib.ListN.{length}
use borrow.Rule.Slice.PartMut.{put_mid}
use Rattle.tree_writer.proofs.Rows.{put-part}
use Rattle.tree_writer.proofs.put_bytes.Goals as goal

pub returns : goal.returns
returns c =
    let args = c.args in
    ap (put_mid args.at (args.at + length args.s.now - args.at) args.out.now) c.copy_bytes.ensures
    ∙ put-part args.out.now args.s.now args.at c.requires
