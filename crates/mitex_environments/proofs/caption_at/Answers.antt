-- By whether the child is a caption.
use Prim.Native.Nat.{◌+◌}
use Rattle.mitex_environments.proofs.Captioning.{other-shows}
use Rattle.mitex_environments.proofs.caption_at.Goals as goal

pub returns-then-not-is_caption : goal.returns-then-not-is_caption
returns-then-not-is_caption c = λ t o q sp. other-shows t (1 + o) (c.is_caption.ensures t sp) c.if-not-is_caption.true
