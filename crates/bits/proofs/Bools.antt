-- Laws of yes and no: what `&&` says of its parts, and a law for every Bool from the two cases, computed.
-- Assumes nothing.
use mathlib.Core.Path.{◌≡◌, refl, sym, ap, ◌∙◌}
use mathlib.Core.List.{List, [], ◌∷◌}
use mathlib.Core.Bool.{Bool, true, false, not, ◌&&◌, ◌||◌, true≢false}

pub and_left : (a b : Bool) → (a && b) ≡ true → a ≡ true
and_left true b h = refl
and_left false b h = h

pub and_right : (a b : Bool) → (a && b) ≡ true → b ≡ true
and_right true b h = h
and_right false b h = absurd (true≢false (sym h))

-- the test passes at both Bools
abbrev pub each : (Bool → Bool) → Bool
each f = f true && f false

pub at : (f : Bool → Bool) → each f ≡ true → (b : Bool) → f b ≡ true
at f t true = and_left (f true) (f false) t
at f t false = and_right (f true) (f false) t

-- tests that all pass, and each of them
abbrev pub all_of : List Bool → Bool
all_of [] = true
all_of (b ∷ bs) = b && all_of bs

abbrev pub AllTrue : List Bool → Type 0
AllTrue [] = Unit {0}
AllTrue (b ∷ bs) = (b ≡ true) × AllTrue bs

pub all_true : (bs : List Bool) → all_of bs ≡ true → AllTrue bs
all_true [] h = tt
all_true (b ∷ bs) h = (and_left b (all_of bs) h, all_true bs (and_right b (all_of bs) h))

pub not_true : {b : Bool} → not b ≡ true → b ≡ true → ⊥
not_true {b} h k = true≢false (sym h ∙ ap not k)

-- where the first holds, so does the second
pub implied : {a b : Bool} → (not a || b) ≡ true → a ≡ true → b ≡ true
implied {a} {b} h k = sym (ap (λ (x : Bool). not x || b) k) ∙ h
