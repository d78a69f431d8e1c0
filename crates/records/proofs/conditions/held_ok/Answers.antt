-- `records::conditions::held_ok` meets its contract: what it reads is what is held. Assumes nothing.
use mathlib.Core.Path.{◌≡◌, sym, ◌∙◌}
use mathlib.Core.Bool.{true, ◌&&◌}
use native.Mathlib.Omega.{arith}
use lib.ListN.{get_or}
use lib.Dec.{leb}
use Rattle.estimate.specs.Marks.{marks_below}
use Rattle.records.specs.Lengths.{settings_length}
use Rattle.records.specs.HeldPart.{held_at}
use Rattle.records.specs.Reading.{is_box, bytes_mean, heard_ok, estimate_ok}
use Rattle.records.proofs.HeldOk.{own_parts, other_parts, no-mean, no-heard, no_own, without-best, with-best}
use Rattle.records.proofs.conditions.held_ok.Goals as goal

pub returns-then-not-bytes_mean : goal.returns-then-not-bytes_mean
returns-then-not-bytes_mean c =
    let a = c.args in
    no-mean a.boxes a.n a.m a.bytes.now (sym c.bytes_mean.ensures ∙ c.if-not-bytes_mean.true)

pub heard_ok-requires : goal.heard_ok-requires
heard_ok-requires c =
    let mean : bytes_mean c.args.bytes.now ≡ true =
    sym c.bytes_mean.ensures ∙ c.if-not-bytes_mean.false in
    (c.requires.0, mean)

pub returns-then-not-heard_ok : goal.returns-then-not-heard_ok
unfolding held_at
returns-then-not-heard_ok c =
    let heard : let a = c.args in
    c.heard_ok.result ≡ heard_ok a.boxes (held_at a.bytes.now settings_length).heard =
    c.heard_ok.ensures in
    let a = c.args in
    no-heard a.boxes a.n a.m a.bytes.now (sym heard ∙ c.if-not-heard_ok.true)

pub returns-then-not-own_ok : goal.returns-then-not-own_ok
unfolding held_at
returns-then-not-own_ok c =
    let own : let a = c.args in c.own_ok.result ≡ own_parts a.boxes a.n a.m a.bytes.now =
    let a = c.args in
    let view = c.u32_at-view.ensures in
    let period = c.u32_at-period.ensures in
    c.own_ok.ensures
    ∙ (λ i. marks_below a.m (get_or a.bytes.now 548 0)
    && (leb (c.u32_at.ensures i) (view i)
    && (leb (c.u32_at-2.ensures i) (period i) && estimate_ok a.n (c.estimate_at-own.ensures i)))) in
    let a = c.args in
    no_own a.boxes a.n a.m a.bytes.now (sym own ∙ c.if-not-own_ok.true)

pub returns-then-bytes-eq0 : goal.returns-then-bytes-eq0
unfolding held_at
returns-then-bytes-eq0 c =
    let mean : bytes_mean c.args.bytes.now ≡ true =
    sym c.bytes_mean.ensures ∙ c.if-not-bytes_mean.false in
    let heard : let a = c.args in
    c.heard_ok.result ≡ heard_ok a.boxes (held_at a.bytes.now settings_length).heard =
    c.heard_ok.ensures in
    let own : let a = c.args in c.own_ok.result ≡ own_parts a.boxes a.n a.m a.bytes.now =
    let a = c.args in
    let view = c.u32_at-view.ensures in
    let period = c.u32_at-period.ensures in
    c.own_ok.ensures
    ∙ (λ i. marks_below a.m (get_or a.bytes.now 548 0)
    && (leb (c.u32_at.ensures i) (view i)
    && (leb (c.u32_at-2.ensures i) (period i) && estimate_ok a.n (c.estimate_at-own.ensures i)))) in
    let a = c.args in
    c.zero_at.ensures
    ∙ without-best a.boxes a.n a.m a.bytes.now mean (sym heard ∙ c.if-not-heard_ok.false)
    (sym own ∙ c.if-not-own_ok.false) c.requires.0 c.if-bytes-eq0.true

pub bounds-bytes-599 : goal.bounds-bytes-599
bounds-bytes-599 c = omega arith

pub other_ok-requires : goal.other_ok-requires
other_ok-requires c = (c.requires.1, c.requires.2)

pub returns : goal.returns
unfolding held_at
returns c =
    let mean : bytes_mean c.args.bytes.now ≡ true =
    sym c.bytes_mean.ensures ∙ c.if-not-bytes_mean.false in
    let heard : let a = c.args in
    c.heard_ok.result ≡ heard_ok a.boxes (held_at a.bytes.now settings_length).heard =
    c.heard_ok.ensures in
    let own : let a = c.args in c.own_ok.result ≡ own_parts a.boxes a.n a.m a.bytes.now =
    let a = c.args in
    let view = c.u32_at-view.ensures in
    let period = c.u32_at-period.ensures in
    c.own_ok.ensures
    ∙ (λ i. marks_below a.m (get_or a.bytes.now 548 0)
    && (leb (c.u32_at.ensures i) (view i)
    && (leb (c.u32_at-2.ensures i) (period i) && estimate_ok a.n (c.estimate_at-own.ensures i)))) in
    let other : let a = c.args in
    c.other_ok.result ≡ other_parts a.boxes a.n a.m a.bytes.now =
    let a = c.args in
    let best = c.best_at-best.ensures in
    c.other_ok.ensures
    ∙ (λ i. is_box a.boxes (best i).box_number
    && (marks_below a.m (get_or a.bytes.now 599 0)
    && (leb (best i).base_view (c.u32_at-view.ensures i)
    && (leb (best i).base_period (c.u32_at-period.ensures i) && estimate_ok a.n (best i).estimate)))) in
    let a = c.args in
    other
    ∙ with-best a.boxes a.n a.m a.bytes.now mean (sym heard ∙ c.if-not-heard_ok.false)
    (sym own ∙ c.if-not-own_ok.false) c.requires.0 c.if-bytes-eq0.false
