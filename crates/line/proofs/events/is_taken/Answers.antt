-- `events::is_taken` meets its contract. Assumes nothing.
use Rattle.std.proofs.Common.{◌≡◌, ℕ, refl, false}
use Rattle.std.proofs.Common.{inl, inr}
use Rattle.line.specs.declared.events.Event.{Event}
use Rattle.line.specs.declared.events.Event.TheVariants.{Tick, GiveUp, Deliver, Store, Return, Commit, StoreAsked, Bad}
use Rattle.line.specs.Events.{is_taken}
use Rattle.line.proofs.events.is_taken.Goals as goal

untaken : (e : Event) → ((x : ℕ) → e ≡ Tick x → ⊥) → ((x : ℕ) → e ≡ GiveUp x → ⊥) → ((x y : ℕ) → e ≡ Deliver x y → ⊥) → false ≡ is_taken e
unfolding is_taken
untaken (Tick x) t g d = absurd (t x refl)
untaken (GiveUp x) t g d = absurd (g x refl)
untaken (Deliver x y) t g d = absurd (d x y refl)
untaken (Store x) t g d = refl
untaken (Return x y) t g d = refl
untaken (Commit x y) t g d = refl
untaken (StoreAsked x) t g d = refl
untaken Bad t g d = refl

pub returns-in-Tick : goal.returns-in-Tick
unfolding is_taken
returns-in-Tick c = elim c.in-Tick.is [ inl w ↦ rw w.1 | inr s ↦ elim s [ inl w ↦ rw w.1 | inr w ↦ rw w.2 ] ]

pub returns-in_default : goal.returns-in_default
returns-in_default c = untaken c.args.event c.in_default.not-Tick c.in_default.not-GiveUp c.in_default.not-Deliver
