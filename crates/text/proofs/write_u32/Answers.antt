-- Four bytes overwritten are four bytes stored (`put_mid-sets`).
use native.Mathlib.Omega.{arith}
use mathlib.Core.Path.{◌≡◌, ap, ◌∙◌}
use mathlib.Core.List.{[]}
use Prim.Native.Nat.{◌/◌}
use lib.ListN.{length}
use lib.Seq.{sets}
use Rattle.text.specs.Numbers.{four}
use Rattle.text.proofs.Writing.{put_mid-sets}
use Rattle.text.proofs.write_u32.Goals as goal

pub returns : goal.returns
returns c =
    let args = c.args in
    let third : args.n / 65536 ≡ args.n / 256 / 256 = omega arith in
    let fourth : args.n / 16777216 ≡ args.n / 256 / 256 / 256 = omega arith in
    let bytes : c.copy_from_slice.new.self ≡ four args.n [] = c.copy_from_slice.ensures.after ∙ c.to_le_bytes.ensures ∙ rw (third, fourth) in
    put_mid-sets args.i _ args.out.now c.copy_from_slice.new.self (ap length bytes ∙ omega arith) (omega arith)
    ∙ ap (sets args.out.now args.i) bytes
