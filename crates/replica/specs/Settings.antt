-- The settings of a replica: refusals 1 to 4 and 18, and the law and the group that they give the protocol.
use Rattle.std.specs.Prelude.{ℕ, ◌≤◌, ◌≡◌, Bool, true, ◌||◌, List, [], ◌∷◌, ◌++◌, ltb, replicate, ℤ, pos}
use Rattle.lists.specs.Refusals.{Refusal, refusal, first_of}
use Rattle.readings.specs.declared.Readings.{Readings}
use Rattle.readings.specs.Readings.{no_readings}
use Rattle.scram.specs.Quorum.{coordinator}
use Rattle.scram.specs.Held.{Law, Group}
use Rattle.quorums.specs.Quorums.{bad_quorums}
use Rattle.law.specs.declared.Settings as Law
use Rattle.law.specs.declared.Marked.{Marked}
use Rattle.law.specs.Settings.{refusals}
use Rattle.law.specs.Law.{updated, issued}
use Rattle.estimate.specs.Fields.{no_state, first_states}
use Rattle.frame.specs.Sizes.{sizes_ok}
use Rattle.replica.specs.declared.Settings.{Settings}
use Rattle.replica.specs.declared.Member.{Member}

-- 1: "N not 3 to 9, or own number not 1 to N"
unfoldable pub bad_group : ℕ → ℕ → Bool
bad_group N own = ltb N 3 || ltb 9 N || ltb own 1 || ltb N own

-- the refusals of settings in their order: 1, then the law's 2 to 4, then 18 ("with the settings, after 4")
abbrev pub settings_refusals : Settings → List Refusal
settings_refusals s = refusal 1 (bad_group s.boxes s.own) ∷ refusals s.law ++ (refusal 18 (bad_quorums s.boxes s.quorums) ∷ [])

-- the number of the first that is made, or 0
unfoldable pub settings_refusal : Settings → ℕ
settings_refusal s = first_of (settings_refusals s)

-- the fixed law, as the protocol sees it; "A starting state of n i32 values. Places .. beyond n .. are not looked at"
abbrev pub law_of : Law.Settings → Law (List ℤ) Readings Marked
law_of law = record {
  update = updated law;
  command = issued law;
  start = first_states law.n law.start;
  none = no_readings;
  blank = no_state;
}

-- the few numbers of the settings that the rules need
abbrev pub member_of : Settings → Member
member_of s = record { boxes = s.boxes; own = s.own; quorums = s.quorums; n = s.law.n; m = s.law.m }

-- a group of N boxes: "a, the boxes needed to decide, and b, the boxes heard before a new coordinator proposes"
abbrev pub group_of : Member → Group
group_of member = record {
  size = member.boxes;
  to_decide = member.quorums.to_decide;
  to_propose = member.quorums.to_propose;
  coordinator = coordinator member.boxes;
}

-- what settings that are not refused tell the rules: each box has a place among the boxes heard, and frames have a form
pub record Fit (member : Member) : Type 0 where
  pub boxes : member.boxes ≤ 9
  pub own : member.own ≤ 9
  pub sizes : sizes_ok member.n member.m ≡ true

-- settings of nothing, which 1 refuses
abbrev pub blank_settings : Settings
blank_settings = record {
  boxes = 0;
  own = 0;
  quorums = record { to_decide = 0; to_propose = 0 };
  law = record {
    n = 0;
    m = 0;
    p = 0;
    a = replicate 36 (pos 0);
    l = replicate 24 (pos 0);
    c = replicate 24 (pos 0);
    k = replicate 24 (pos 0);
    low = replicate 4 (pos 0);
    high = replicate 4 (pos 0);
    start = no_state;
  };
}
