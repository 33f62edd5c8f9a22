-- Each refusal of a trace is given then and only then when the table of document 01 says so, and a trace is accepted when no row is given.
-- Assumes nothing.
use Prim.Native.Nat.{ℕ, zero, suc, ◌*◌, ◌≤◌}
use mathlib.Core.Path.{◌≡◌, refl, sym, ap, subst, ◌∙◌}
use mathlib.Core.List.{List, [], ◌∷◌, ◌++◌, append_assoc, append-nil}
use native.Mathlib.Omega.{arith}
use lib.Dec.{ltb}
use lib.ListN.{length}
use borrow.Author.Tests.{lt-ltb, le-ltb, ltb-true, ltb-false}
use Rattle.std.specs.Prelude.{Some, None, Ok, Err}
use Rattle.refusals.specs.Verdict.{accepted}
use Rattle.state.specs.declared.Event.{Event}
use Rattle.refusals.specs.declared.Refusal.{Refusal}
use Rattle.records.specs.Record.{Read, got, remaining, read_at}
use Rattle.records.specs.Trace.{Trace, events, refused, ahead, read_from, read_trace}
use Rattle.refusals.specs.Runs.{Rooms}
use Rattle.records.specs.Judged.{short, with_room, judged_trace, verdict_of, Fits, FitsAnswers}
use Rattle.records.specs.TraceTable.{Reached, start, past, Refuses, row1, rows2to6, row7, row7answers, Accepts}
use Rattle.records.proofs.Choices.{by_test, or_right, or_neither, or_either}
use Rattle.records.proofs.Reading.{read_end}
use Rattle.records.proofs.Walking.{got_within, from_end, from_bad, from_got}
use Rattle.records.proofs.RecordRows.{faulty_then, whole_then, faulty_only, whole_only, read_explained, Explained}
use Rattle.state.specs.Events.{count_of}
use Rattle.refusals.specs.Refusals.{number_of, place_of}
use Rattle.refusals.proofs.Told.{Told}
use Rattle.refusals.specs.declared.Refusal.TheVariants.{Oversized, Room}

-- events in front of what follows them
abbrev before : List Event → Trace → Trace
before [] t = t
before (e ∷ es) t = ahead e (before es t)

before_last : (es : List Event) (e : Event) (t : Trace) → before (es ++ e ∷ []) t ≡ before es (ahead e t)
before_last [] e t = refl
before_last (d ∷ es) e t = ap (ahead d) (before_last es e t)

before_refused : (es : List Event) (refusal : Refusal) → before es (refused refusal) ≡ refused refusal
before_refused [] refusal = refl
before_refused (e ∷ es) refusal = ap (ahead e) (before_refused es refusal)

before_none : (es : List Event) → before es (events []) ≡ events es
before_none [] = refl
before_none (e ∷ es) = ap (ahead e) (before_none es)

module _ (trace : List ℕ) where
  pub reached_within : {at : ℕ} {es : List Event} → Reached trace at es → at ≤ length trace
  reached_within start = omega arith
  reached_within (past {at} {next} {es} {e} h w) = (got_within trace at e next (whole_then trace at w)).1

  -- what a trace says is what was passed, and then what it says from the place reached
  reached_reads : {at : ℕ} {es : List Event} → Reached trace at es → read_trace trace ≡ before es (read_from trace at)
  reached_reads start = refl
  reached_reads (past {at} {next} {es} {e} h w) =
      reached_reads h ∙ ap (before es) (from_got trace at e next (whole_then trace at w)) ∙ sym (before_last es e (read_from trace next))

  pub sound_then : {es : List Event} → Reached trace (length trace) es → read_trace trace ≡ events es
  sound_then {es} h = reached_reads h ∙ ap (before es) (from_end trace (length trace) (read_end trace (length trace) (omega arith))) ∙ before_none es

  faulty_reads : {at : ℕ} {es : List Event} {refusal : Refusal} → Reached trace at es → read_at trace at ≡ Err refusal → read_trace trace ≡ refused refusal
  faulty_reads {at} {es} {refusal} h f = reached_reads h ∙ ap (before es) (from_bad trace at refusal f) ∙ before_refused es refusal

  module _ (room : Rooms) where
    -- what is reached where the reading ends
    abbrev Ends : List Event → Trace → Type 0
    Ends es (events fs) = Reached trace (length trace) (es ++ fs)
    Ends es (refused refusal) = length trace ≤ 16777216 → Refuses trace room (number_of refusal) (place_of refusal)

    ends_ahead : (es : List Event) (e : Event) (t : Trace) → Ends (es ++ e ∷ []) t → Ends es (ahead e t)
    ends_ahead es e (events fs) h = rw append_assoc at h
    ends_ahead es e (refused refusal) h = h

    ends_here : {at : ℕ} {es : List Event} → Reached trace at es → remaining trace at ≡ 0 → Ends es (events [])
    ends_here {at} {es} h z =
        let l : at ≡ length trace = omega (arith, reached_within h) in
        rw append-nil (subst (λ (n : ℕ). Reached trace n es) l h)

    turn : {at : ℕ} {es : List Event} → Reached trace at es
        → ((e : Event) (next : ℕ) → read_at trace at ≡ got e next → Ends (es ++ e ∷ []) (read_from trace next))
        → (r : Read) → read_at trace at ≡ r → Ends es (read_from trace at)
    turn {at} {es} h rest (Ok None) q = subst (Ends es) (sym (from_end trace at q)) (ends_here h (subst (Explained trace at) q (read_explained trace at)))
    turn {at} {es} h rest (Err refusal) q = subst (Ends es) (sym (from_bad trace at refusal q)) (λ size. let f = faulty_only trace at q in subst (Refuses trace room (number_of refusal)) (sym f.1) (rows2to6 size h f.0))
    turn {at} {es} h rest (Ok (Some (e, next))) q = subst (Ends es) (sym (from_got trace at e next q)) (ends_ahead es e (read_from trace next) (rest e next q))

    walk : (most : ℕ) {at : ℕ} {es : List Event} → Reached trace at es → remaining trace at ≤ most → Ends es (read_from trace at)
    walk zero {at} {es} h l = subst (Ends es) (sym (from_end trace at (read_end trace at (omega arith)))) (ends_here h (omega arith))
    walk (suc most) {at} {es} h l =
        turn h
        (λ e next q. let w = got_within trace at e next q in walk most (past h (whole_only trace at q)) (omega arith))
        (read_at trace at) refl

    ends : Ends [] (read_trace trace)
    ends = walk (length trace) start (omega arith)

    -- then
    pub refuses_then : {n p : ℕ} → Refuses trace room n p → Told n p (λ refusal. judged_trace trace room ≡ refused refusal)
    unfolding judged_trace
    refuses_then (row1 h) = record { refusal = Oversized; number = refl; place = refl; so = simp (lt-ltb _ _ h) }
    refuses_then (rows2to6 {at} size h f) =
        let t = faulty_then trace at f in
        record { refusal = t.refusal; number = t.number; place = t.place; so = rw (le-ltb _ _ size, faulty_reads h t.so) }
    refuses_then (row7 size h l) = record { refusal = Room (length trace); number = refl; place = refl; so = rw (le-ltb _ _ size, sound_then h, lt-ltb _ _ l) }
    refuses_then (row7answers {es} size h l) =
        record { refusal = Room (length trace); number = refl; place = refl; so = rw (le-ltb _ _ size, sound_then h, or_right (ltb room.costs (4 * count_of es)) _ (lt-ltb _ _ l)) }

    pub accepts_then : {es : List Event} → Accepts trace room es → judged_trace trace room ≡ events es
    unfolding judged_trace
    accepts_then a = rw (le-ltb _ _ a.size, sound_then a.records, le-ltb _ _ a.enough, le-ltb _ _ a.enough_answers)

    -- only then: what the trace is judged to say, by the table
    abbrev Judged : Trace → Type 0
    Judged (events es) = Accepts trace room es
    Judged (refused refusal) = Refuses trace room (number_of refusal) (place_of refusal)

    with_room_lem : (t : Trace) → length trace ≤ 16777216 → Ends [] t → Judged (with_room (length trace) room t)
    with_room_lem (events es) size h =
        by_test Judged (short room (count_of es)) _ _ (λ l. or_either (ltb room.costs (4 * count_of es)) (ltb room.answers (count_of es)) (λ c. row7 size h (ltb-true _ _ c)) (λ c. row7answers size h (ltb-true _ _ c)) l)
        (λ l.
        let both = or_neither (ltb room.costs (4 * count_of es)) (ltb room.answers (count_of es)) l in
        record { size = size; records = h; enough = ltb-false _ _ both.0; enough_answers = ltb-false _ _ both.1 })
    with_room_lem (refused refusal) size h = h size

    judged_so : Judged (judged_trace trace room)
    unfolding judged_trace
    judged_so =
        by_test Judged (ltb 16777216 (length trace)) _ _ (λ l. row1 (ltb-true _ _ l))
        (λ l. with_room_lem (read_trace trace) (ltb-false _ _ l) ends)

    pub refuses_only : {refusal : Refusal} → judged_trace trace room ≡ refused refusal → Refuses trace room (number_of refusal) (place_of refusal)
    refuses_only q = subst Judged q judged_so

    pub accepts_only : {es : List Event} → judged_trace trace room ≡ events es → Accepts trace room es
    accepts_only q = subst Judged q judged_so

    -- what a verdict tells of the trace
    pub refused_so : {refusal : Refusal} → verdict_of (judged_trace trace room) ≡ Err refusal → judged_trace trace room ≡ refused refusal
    refused_so {refusal} = go (judged_trace trace room)
      where
        go : (x : Trace) → verdict_of x ≡ Err refusal → x ≡ refused refusal
        go (events es) h = cc
        go (refused other) h = cc

    pub record Taken : Type 0 where
      pub size : length trace ≤ 16777216
      pub fits : Fits 0 room.costs (read_trace trace)
      pub tells : FitsAnswers 0 room.answers (read_trace trace)
      pub same : judged_trace trace room ≡ read_trace trace

    pub taken_so : verdict_of (judged_trace trace room) ≡ accepted → Taken
    taken_so = go (judged_trace trace room) refl
      where
        go : (x : Trace) → judged_trace trace room ≡ x → verdict_of x ≡ accepted → Taken
        go (events es) q h =
            let a = accepts_only q in
            let s = sound_then a.records in
            record {
              size = a.size;
              fits = subst (Fits 0 room.costs) (sym s) (omega (arith, a.enough));
              tells = subst (FitsAnswers 0 room.answers) (sym s) (omega (arith, a.enough_answers));
              same = q ∙ sym s;
            }
        go (refused refusal) q h = let z : ◌≡◌ {A = ℕ} 0 1 = cc in absurd (omega arith)
