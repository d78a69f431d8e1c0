-- `ticketed::reading::read` meets its contract. Assumes nothing.
use Rattle.std.proofs.Common.{◌≡◌, refl, sym, ap, ◌∙◌, subst, true, length, length-take-le, arith}
use Rattle.std.specs.Prelude.{Option, IfSome, Result, Ok, Err, IfOk, is_ok}
use Rattle.std.specs.Result.{result_ok}
use Rattle.refusal.specs.declared.Refusal.{Refusal}
use Rattle.replica.specs.declared.Replica.{Replica}
use Rattle.lists.proofs.Choice.{pick_true}
use Rattle.records.specs.Reading.{is_done}
use Rattle.records.proofs.Results.{done-ok}
use Rattle.records.proofs.IsRecord.{read-is-done}
use Rattle.ticketed.specs.Lengths.{ticketed_length}
use Rattle.ticketed.specs.Reading.{record_of, ticketed_in, is_ticketed}
use Rattle.ticketed.proofs.Judged.{no-tickets, record-judged, tickets-long, replica-read}
use Rattle.ticketed.proofs.reading.read.Goals as goal

pub returns-then-not-tickets_ok-clause-found : goal.returns-then-not-tickets_ok-clause-found
returns-then-not-tickets_ok-clause-found c = no-tickets c.args.area.now (sym c.tickets_ok.ensures ∙ c.if-not-tickets_ok.true)

pub slice_bounds-read-end : goal.slice_bounds-read-end
slice_bounds-read-end c =
    let long : length c.args.area.now ≡ ticketed_length =
    tickets-long c.args.area.now (sym c.tickets_ok.ensures ∙ c.if-not-tickets_ok.false) in
    sym (length-take-le 616 c.args.area.now (omega (arith, long)))

-- the value of a result that is one, known by what it is known to be
kept : (r : Result Replica Refusal) (x y : Replica) → IfOk r (λ (z : Replica). z ≡ x) → (is_ok r ≡ true → x ≡ y) → IfSome (result_ok r) (λ (z : Replica). z ≡ y)
kept (Ok z) x y e f = e ∙ f refl
kept (Err refusal) x y e f = tt

pub returns : goal.returns
returns c =
    let b = c.args.area.now in
    let r = c.read.ensures in
    let is = record-judged b (sym c.tickets_ok.ensures ∙ c.if-not-tickets_ok.false) in
    let told : is_ok c.read.result ≡ is_ticketed b = sym (done-ok c.read.result) ∙ ap is_done r.answer ∙ read-is-done (record_of b) ∙ is in record {
      found = c.ok.ensures.variant ∙ told;
      replica = subst (λ (o : Option Replica). IfSome o (λ (z : Replica). z ≡ (ticketed_in b).replica)) (sym c.ok.ensures.value)
          (kept c.read.result _ _ r.replica (λ e. replica-read b is ∙ pick_true _ _ _ (sym told ∙ e)));
    }
