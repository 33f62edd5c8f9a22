-- Document 02, R-6: "Remember which instruction is the head. Support needs the head's opcode and address. The window
-- keeps both, zero when shut, through pairing, breaks and images. They enter no cost; demand 2's next state is read
-- without them." Over any board; what images do to them is in Images.
--
--   unnamed_state s  ==  the state s without its head's opcode and address
--   or_else o r      ==  the retirement of o, or r where there is none
--   last_of es       ==  the last retirement of a run of events, if there is one
--   EveryHead        ==  the facts
--
-- Two states differ only there where they are equal without them. A sequence of events is any list of retirements,
-- breaks and clears, from any state.
use Rattle.std.specs.Prelude.{◌≡◌, true, false, List, [], ◌∷◌, Option, Some, None}
use Rattle.window.specs.Windows.{shut, seen, unnamed}
use Rattle.state.specs.declared.Retirement.{Retirement}
use Rattle.state.specs.declared.Event.{Event}
use Rattle.state.specs.declared.Event.TheVariants.{Retired, Broken, ClearedAll, ClearedUser}
use Rattle.state.specs.Board.{Board}
use Rattle.state.specs.Events.{State, after, finally, costs}

abbrev pub or_else : Option Retirement → Retirement → Option Retirement
or_else None r = Some r
or_else (Some later) r = Some later

abbrev pub last_of : List Event → Option Retirement
last_of [] = None
last_of (Retired r ∷ es) = or_else (last_of es) r
last_of (Broken ∷ es) = last_of es
last_of (ClearedAll ∷ es) = last_of es
last_of (ClearedUser ∷ es) = last_of es

module _ (B : Board) where
  abbrev pub unnamed_state : State B.rule → State B.rule
  unnamed_state s = record { cache = s.cache; window = unnamed s.window }

  pub record EveryHead : Type 0 where
    -- "They enter no cost": of two states that differ only there, through any events, the costs are equal
    pub same_costs : (s t : State B.rule) → unnamed_state s ≡ unnamed_state t → (es : List Event)
        → costs B s es ≡ costs B t es
    -- and the next states differ only there
    pub same_next : (s t : State B.rule) → unnamed_state s ≡ unnamed_state t → (es : List Event)
        → unnamed_state (finally B s es) ≡ unnamed_state (finally B t es)
    -- "The window keeps both": after a retirement an open window has its opcode, and as address its ppc
    pub head_named : (s : State B.rule) (r : Retirement) → (after B s (Retired r)).window.opened ≡ true
        → ((after B s (Retired r)).window.op ≡ r.op) × ((after B s (Retired r)).window.address ≡ r.controls.ppc)
    -- "zero when shut", after any event
    pub zero_when_shut : (s : State B.rule) (e : Event) → (after B s e).window.opened ≡ false
        → (after B s e).window ≡ shut
    -- "through .. breaks", and clears
    pub break_shuts : (s : State B.rule) → (after B s Broken).window ≡ shut
    pub clear_all_keeps : (s : State B.rule) → (after B s ClearedAll).window ≡ seen s.window
    pub clear_user_keeps : (s : State B.rule) → (after B s ClearedUser).window ≡ seen s.window
    -- so after any events an open window has the opcode and the ppc of the last retirement,
    pub head_is_last : (s : State B.rule) (es : List Event) (r : Retirement) → last_of es ≡ Some r
        → (finally B s es).window.opened ≡ true
        → ((finally B s es).window.op ≡ r.op) × ((finally B s es).window.address ≡ r.controls.ppc)
    -- or, where there was none, those that it began with
    pub head_is_first : (s : State B.rule) (es : List Event) → last_of es ≡ None
        → (finally B s es).window.opened ≡ true
        → ((finally B s es).window.op ≡ s.window.op) × ((finally B s es).window.address ≡ s.window.address)
