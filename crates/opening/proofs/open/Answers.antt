-- `opening::open` meets its contract. Assumes nothing.
use Rattle.std.proofs.Common.{sym, ap, ◌∙◌, arith, ◌≡◌}
use Rattle.std.specs.Prelude.{Err}
use Rattle.lists.specs.Choice.{pick}
use Rattle.opening.specs.declared.Unopened.TheVariants.{Bad, Refused}
use Rattle.opening.specs.Opening.{begun, opened_by, opened_unless, opened_with, opened_as}
use Rattle.opening.proofs.OpeningLaws.{in-range}
use Rattle.opening.proofs.EndingLaws.{numbered-ended}
use Rattle.opening.proofs.open.Goals as goal

pub returns-then-not-has_begun : goal.returns-then-not-has_begun
unfolding opened_by pick
returns-then-not-has_begun c =
    let line = c.args.line.now in
    let s = c.sizes_in-s.result in
    let b = sym (c.has_begun.ensures ∙ ap (λ w. begun w s) c.field.ensures) ∙ c.if-not-has_begun.true in
    let x : Err Bad ≡ opened_by line s = rw b in
    x ∙ ap (opened_by line) c.sizes_in-s.ensures

pub returns-in-Some : goal.returns-in-Some
unfolding opened_by opened_unless pick
returns-in-Some c =
    let line = c.args.line.now in
    let s = c.sizes_in-s.result in
    let b = sym (c.has_begun.ensures ∙ ap (λ w. begun w s) c.field.ensures) ∙ c.if-not-has_begun.false in
    let r = sym c.sizes_refusal.ensures ∙ c.in-Some.is in
    let x : Err (Refused c.in-Some.refusal) ≡ opened_by line s = rw (b, r) in
    x ∙ ap (opened_by line) c.sizes_in-s.ensures

pub starts_of-at-requires : goal.starts_of-at-requires
starts_of-at-requires c = let r = in-range _ (sym c.sizes_refusal.ensures ∙ c.in_default.is) in (r.n, r.m, r.p)

pub returns-then-not-is_numbered : goal.returns-then-not-is_numbered
unfolding opened_by opened_unless opened_with pick
returns-then-not-is_numbered c =
    let line = c.args.line.now in
    let s = c.sizes_in-s.result in
    let b = sym (c.has_begun.ensures ∙ ap (λ w. begun w s) c.field.ensures) ∙ c.if-not-has_begun.false in
    let z = sym c.sizes_refusal.ensures ∙ c.in_default.is in
    let at = c.starts_of-at.result in
    let y : Err Bad ≡ opened_with line s at = rw (sym c.is_numbered.ensures ∙ c.if-not-is_numbered.true) in
    let x : Err Bad ≡ opened_by line s = rw (b, z) (y ∙ ap (opened_with line s) c.starts_of-at.ensures.0) in
    x ∙ ap (opened_by line) c.sizes_in-s.ensures

pub overflow_cast-boxes : goal.overflow_cast-boxes
overflow_cast-boxes c = let r = in-range _ (sym c.sizes_refusal.ensures ∙ c.in_default.is) in record { fits = omega (arith, r.boxes) }

pub quorums_in-quorums-requires : goal.quorums_in-quorums-requires
quorums_in-quorums-requires c =
    let e = sym c.is_numbered.ensures ∙ c.if-not-is_numbered.false in
    (c.starts_of-at.ensures.7, numbered-ended c.starts_of-at.result.count c.args.line.now e)

pub law_in-law-requires : goal.law_in-law-requires
law_in-law-requires c =
    let r = in-range _ (sym c.sizes_refusal.ensures ∙ c.in_default.is) in
    let e = c.starts_of-at.ensures in
    (r.n, r.m, r.p, e.1, e.2, e.3, e.4, e.5, e.6)

pub returns : goal.returns
unfolding opened_by opened_unless opened_with pick
returns c =
    let line = c.args.line.now in
    let s = c.sizes_in-s.result in
    let b = sym (c.has_begun.ensures ∙ ap (λ w. begun w s) c.field.ensures) ∙ c.if-not-has_begun.false in
    let z = sym c.sizes_refusal.ensures ∙ c.in_default.is in
    let at = c.starts_of-at.result in
    let y : opened_as s c.quorums_in-quorums.result c.law_in-law.result ≡ opened_with line s at =
    rw (sym c.is_numbered.ensures ∙ c.if-not-is_numbered.false)
    (let quorums = c.quorums_in-quorums.ensures in let law = c.law_in-law.ensures in λ i. opened_as s (quorums i) (law i)) in
    let x : opened_as s c.quorums_in-quorums.result c.law_in-law.result ≡ opened_by line s =
    rw (b, z) (y ∙ ap (opened_with line s) c.starts_of-at.ensures.0) in
    x ∙ ap (opened_by line) c.sizes_in-s.ensures
