-- `frame::command::put_command` meets its contract: the four bytes, the period and the values are put one after the other. Assumes nothing.
use mathlib.Core.Path.{◌≡◌, refl, ap, ◌∙◌}
use mathlib.Core.List.{[], ◌∷◌, ◌++◌}
use Prim.Native.Nat.{ℕ}
use native.Mathlib.Omega.{arith}
use native.Mathlib.Nat.{sub-zero}
use lib.ListN.{length, take, length-append}
use Rattle.octets.specs.Words.{little_endian, values_bytes}
use Rattle.octets.specs.Areas.{put}
use Rattle.estimate.specs.Marks.{bit}
use Rattle.frame.specs.Lengths.{command_start}
use Rattle.frame.specs.Command.{command_bytes}
use Rattle.octets.proofs.Numbers.{length-little_endian}
use Rattle.octets.proofs.Areas.{then-put}
use Rattle.octets.proofs.ValueLists.{length-first}
use Rattle.estimate.proofs.PresentMarks.{bit-is}
use borrow.Author.Rules.{rules}
use Rattle.frame.proofs.command.put_command.Goals as goal

pub returns : goal.returns
unfolding command_bytes
returns c =
    let four : length c.args.values ≡ 4 = search rules in
    let first : c.put_bytes.new.area ≡ put c.args.area.now 0 (5 ∷ c.args.p ∷ bit c.args.limited ∷ 0 ∷ []) =
    c.put_bytes.ensures ∙ ap (λ (k : ℕ). put c.args.area.now 0 (5 ∷ c.args.p ∷ k ∷ 0 ∷ [])) (c.from.ensures ∙ bit-is _) in
    let p = c.args.p in
    let values = c.args.values in
    let l = c.args.area.now in
    let mark = bit c.args.limited in
    let size = length-first p values (omega (arith, four, c.requires.0)) in
    let dated = c.put_u32 in
    let head = length-little_endian 4 c.args.period in (
      simp (length-append, head, size) (omega arith),
      then-put l _ _ 0 8 ((5 ∷ p ∷ mark ∷ 0 ∷ []) ++ little_endian 4 c.args.period) (values_bytes (take p values))
          (then-put l _ _ 0 4 (5 ∷ p ∷ mark ∷ 0 ∷ []) (little_endian 4 c.args.period)
          first
          dated.ensures refl (omega (arith, head, c.requires)))
          (c.put_values.ensures ∙ ap (λ (k : ℕ). put dated.new.area command_start (values_bytes (take k values))) (sub-zero p))
          (simp head)
          (omega (arith, size, c.requires)),
    )
