-- `ticketed::asking::askable_in` meets its contract. Assumes nothing.
use mathlib.Core.Path.{ap}
use Prim.Native.Nat.{ℕ}
use Rattle.asks.specs.declared.Ticketed.{Ticketed}
use Rattle.ticketed.specs.TicketsPart.{tickets_at}
use Rattle.ticketed.proofs.asking.askable_in.Goals as goal

pub returns : goal.returns
unfolding tickets_at
returns c =
    let a = c.args in
    let with : ℕ → Ticketed = λ n. record {
      replica = a.before;
      tickets = record { latest = n; pending = (tickets_at a.replica.now).pending; held = a.before.held };
    } in
    ap with c.u64_at.ensures
