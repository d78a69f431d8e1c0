-- Laws of `Says`, `Does` and `Gives`: rules that change nothing or write nothing, and the step that a rule's move becomes. Assumes nothing.
use Rattle.std.proofs.Common.{◌≡◌, refl, sym, ap, ◌∙◌, subst, Bool, true, false, true≢false, List, [], ◌∷◌, ℕ, arith, length, ℤ}
use Rattle.std.proofs.lemmas.Bool.{false≢true}
use Rattle.std.proofs.Math.Option.{none}
use Rattle.lists.specs.Choice.{pick}
use Rattle.refusal.specs.declared.Refusal.{Refusal}
use Rattle.refusal.specs.Numbers.{number}
use Rattle.readings.specs.declared.Readings.{Readings}
use Rattle.scram.specs.declared.Answer.TheVariants.{Done}
use Rattle.scram.specs.Held as Scram
use Rattle.scram.specs.Events.{refusing, ignoring, doing}
use Rattle.law.specs.declared.Settings as Law
use Rattle.octets.specs.Areas.{over}
use Rattle.replica.specs.declared.Settings.{Settings}
use Rattle.replica.specs.declared.Held.{Held}
use Rattle.replica.specs.declared.Member.{Member}
use Rattle.replica.specs.declared.Moved.{Moved}
use Rattle.replica.specs.declared.Given.{Given}
use Rattle.replica.specs.declared.Replica.{Replica}
use Rattle.replica.specs.Held.{held_in, held_of}
use Rattle.replica.specs.Frames.{sent_bytes, issued_bytes}
use Rattle.replica.specs.Calls.{Outcomes, checked, step_refusal, Gives}
use Rattle.replica.specs.Rules.{Says, command_of, given_by, Does, stepped_by, refused_step, refused_rule, ignored_rule, tick_refusal}
use Rattle.replica.proofs.Calls.{checked_refused, checked-done, ticks, tick-refused}
use Rattle.refusal.proofs.Numbers.{number-not-0}

-- ---- rules

module _ (law : Law.Settings) (member : Member) (h : Held) (frame : List ℕ) where
  pub says-refused : (r : Refusal) → Says law member (refusing (held_in h) (number r)) (refused_rule h r) frame frame
  unfolding pick
  says-refused r = record { answer = refl; held = refl; frame-length = refl; frame-bytes = refl; command = refl }

  pub says-ignored : Says law member (ignoring (held_in h)) (ignored_rule h) frame frame
  unfolding pick
  says-ignored = record { answer = refl; held = refl; frame-length = refl; frame-bytes = refl; command = refl }

-- a rule that is done and writes nothing
pub says-done : {law : Law.Settings} {member : Member} {h : Scram.Held (List ℤ) Readings} {next : Held} {frame : List ℕ} → next ≡ held_of h
    → Says law member (doing h none none) (record { answer = Done; held = next; frame = 0; issues = false }) frame frame
unfolding pick
says-done e = record { answer = refl; held = e; frame-length = refl; frame-bytes = refl; command = refl }

-- what leaves an empty area empty is nothing
nothing : (written : List ℕ) → [] ≡ over written [] → written ≡ []
nothing [] e = refl
nothing (b ∷ written) e = let z = ap length e in absurd (omega arith)

-- and leaves every area
untouched : (written area : List ℕ) → [] ≡ over written [] → area ≡ over written area
untouched written area e = sym (ap (λ w. over w area) (nothing written e))

module _ {law : Law.Settings} {member : Member} {o : Outcomes} {r : Moved} where
  module _ {frame frame' : List ℕ} where
    -- the outcome that a test picks
    pub says-true : (b : Bool) (p : Outcomes) → b ≡ true → Says law member o r frame frame' → Says law member (pick b o p) r frame frame'
    unfolding pick
    says-true true p e g = g
    says-true false p e g = absurd (false≢true e)

    pub says-false : (b : Bool) (p : Outcomes) → b ≡ false → Says law member o r frame frame' → Says law member (pick b p o) r frame frame'
    unfolding pick
    says-false true p e g = absurd (true≢false e)
    says-false false p e g = g

  -- a rule that is not lent the frame area leaves it
  pub says_nothing : (frame : List ℕ) → Says law member o r [] [] → Says law member o r frame frame
  says_nothing frame g = record {
    answer = g.answer;
    held = g.held;
    frame-length = g.frame-length;
    frame-bytes = untouched (sent_bytes member.n member.m o.sent) frame g.frame-bytes;
    command = g.command;
  }

-- ---- steps

module _ {law : Law.Settings} {member : Member} {p : ℕ} {o : Outcomes} {moved : Moved} {frame frame' : List ℕ} (g : Says law member o moved frame frame') where
  -- the command is written where the rule issues it
  pub does-issued : (issued : ℕ) {command command' : List ℕ} → issued ≡ length (issued_bytes p (command_of law moved.issues moved.held))
      → command' ≡ over (issued_bytes p (command_of law moved.issues moved.held)) command
      → Does member.n member.m p o (given_by moved issued) frame frame' command command'
  does-issued issued {command} {command'} q e = record {
    answer = g.answer;
    held = g.held;
    frame-length = g.frame-length;
    command-length = q ∙ ap (λ c. length (issued_bytes p c)) g.command;
    frame-bytes = g.frame-bytes;
    command-bytes = e ∙ ap (λ c. over (issued_bytes p c) command) g.command;
  }

  -- none is issued
  pub does-silent : o.command ≡ none → (command : List ℕ) → Does member.n member.m p o (given_by moved 0) frame frame' command command
  does-silent n command = record {
    answer = g.answer;
    held = g.held;
    frame-length = g.frame-length;
    command-length = sym (ap (λ c. length (issued_bytes p c)) n);
    frame-bytes = g.frame-bytes;
    command-bytes = sym (ap (λ c. over (issued_bytes p c) command) n);
  }

-- the settings stay
pub gives-done : (s : Settings) {o : Outcomes} {r : Given} {frame frame' command command' : List ℕ}
    → Does s.law.n s.law.m s.law.p o r frame frame' command command' → Gives s o (stepped_by s r) frame frame' command command'
gives-done s g = record {
  answer = g.answer;
  replica = λ i. record { settings = s; held = g.held i };
  frame-length = g.frame-length;
  command-length = g.command-length;
  frame-bytes = g.frame-bytes;
  command-bytes = g.command-bytes;
}

-- ---- refused steps

pub does-refused : {n m p : ℕ} (h : Held) (r : Refusal) (frame command : List ℕ)
    → Does n m p (refusing (held_in h) (number r)) (refused_step h r) frame frame command command
does-refused h r frame command =
    record { answer = refl; held = refl; frame-length = refl; command-length = refl; frame-bytes = refl; command-bytes = refl }

-- 6, 7 and 12 of a tick
module _ (law : Law.Settings) (member : Member) (h : Held) (m : ℕ) (y taken : Readings) {n k p : ℕ} where
  pub tick-refuses : (refusal : Refusal) → number refusal ≡ tick_refusal h m y → (frame command : List ℕ)
      → Does n k p (ticks law member h m y taken) (refused_step h refusal) frame frame command command
  tick-refuses refusal e frame command =
      subst (λ o. Does n k p o (refused_step h refusal) frame frame command command)
      (ap (refusing (held_in h)) e ∙ tick-refused law member h m y taken (λ q. number-not-0 refusal (e ∙ q))) (does-refused h refusal frame command)

-- 1 to 5, with areas so long
module _ (r : Replica) (frame command : ℕ) {n m p : ℕ} {area room : List ℕ} where
  pub checked-refuses : (o : Outcomes) (refusal : Refusal) → number refusal ≡ step_refusal r.settings frame command
      → Does n m p (checked r frame command o) (refused_step r.held refusal) area area room room
  checked-refuses o refusal e =
      subst (λ o. Does n m p o (refused_step r.held refusal) area area room room)
      (ap (refusing (held_in r.held)) e ∙ checked_refused r frame command o (λ q. number-not-0 refusal (e ∙ q))) (does-refused r.held refusal area room)

  pub checked-does : {g : Given} {area' room' : List ℕ} (o : Outcomes) → step_refusal r.settings frame command ≡ 0
      → Does n m p o g area area' room room' → Does n m p (checked r frame command o) g area area' room room'
  checked-does {g} {area'} {room'} o e d = subst (λ o. Does n m p o g area area' room room') (checked-done r frame command o e) d
