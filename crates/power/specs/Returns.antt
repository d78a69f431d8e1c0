-- What returning must show, so that demand 3 with power cycles holds of an implementation whose calls show the protocol's steps.
use Rattle.std.specs.Prelude.{◌≡◌, ◌⊎◌, ℕ, zero, suc}
use Rattle.std.proofs.Math.Option.{Option, none, some}
use Rattle.lists.specs.Choice.{pick}
use Rattle.scram.specs.Held.{Law, Tick}
use Rattle.scram.specs.History.{System}
use Rattle.power.specs.Demand3.{Storage}

module _ {State Readings Values : Type 0} (system : System State Readings Values) where
  -- "the replica that a box would be which stayed up, was handed no reading in those periods and lost every frame"; none where one of these
  -- ticks is refused
  unfoldable pub missed : system.Handed → system.Areas → ℕ → system.Box → Option system.Box
  missed absent areas zero c = some c
  missed absent areas (suc k) c =
      pick (system.call c (Tick absent) areas).refused none (missed absent areas k (system.call c (Tick absent) areas).box)

  -- Returning is refused or gives that replica, for replicas of box i of which `Kept i` always holds. `absent` is what a tick with no reading is
  -- handed, and `areas` are any that its calls may be lent.
  pub record Returns (Kept : ℕ → system.Box → Type 0) (law : Law State Readings Values) (storage : Storage system) : Type 0 where
    pub absent : system.Handed
    pub areas : system.Areas
    pub no_reading : system.row absent ≡ law.none
    pub returns : (i : ℕ) (c : system.Box) (k : ℕ) → Kept i c
        → (storage.back (storage.recorded c) k ≡ none) ⊎ (storage.back (storage.recorded c) k ≡ missed absent areas k c)
