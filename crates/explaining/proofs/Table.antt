-- The parts of the whole text, written one behind the other, and the room for each.
-- Assumes nothing.
use Prim.Native.Nat.{ℕ, ◌+◌, ◌^◌, ◌≤◌, ◌<◌}
use mathlib.Core.Path.{◌≡◌, refl, sym, ap, ap₂, ◌∙◌}
use mathlib.Core.Bool.{Bool, true, false, cond}
use mathlib.Core.List.{List, [], ◌++◌, map}
use native.Mathlib.Omega.{arith}
use lib.ListN.{length, length-append, get_or}
use Rattle.text.specs.Written.{written, written_of}
use Rattle.text.proofs.Writing.{Wrote, wrote, wrote_more, wrote_whole}
use Rattle.rule_text.specs.Each.{each_from}
use Rattle.rule_text.proofs.Each.{each_most}
use Rattle.cost.specs.Retiring.{Retiring}
use Rattle.cost.specs.Cost.{cost_of}
use Rattle.profile.specs.declared.Profile.{Profile}
use Rattle.state.specs.declared.Oep060Timing.{Oep060Timing}
use Rattle.state.specs.Events.{total}
use Rattle.state.specs.Timing.{seen_of}
use Rattle.records.specs.Trace.{Trace, events, refused}
use Rattle.listing.specs.Lines.{total_line}
use Rattle.listing.proofs.Lengths.{total_most}
use Rattle.explaining.specs.declared.Put.{Put}
use Rattle.explaining.specs.WhyLines.{why_header, why_lines, counted, count_lines}
use Rattle.explaining.specs.Why.{why_text_by}
use Rattle.explaining.specs.Inner.{count_text, met_by, Lined}
use Rattle.explaining.proofs.Lengths.{count_most}
use Rattle.explaining.proofs.Counting.{counted_most, counts_so}
use Rattle.explaining.proofs.Meeting.{Few, met_count, met_few}

header_most : (full : Bool) → length (why_header full) ≤ 55
header_most true = omega arith
header_most false = omega arith

-- the text in its parts
text_parts : (full : Bool) (p : Profile) (t : Oep060Timing) (said : Trace) → Few 0 said → let rs = met_by p (seen_of t) said in
    why_text_by full p said t ≡ why_header full ++ why_lines full 0 rs ++ total_line (length rs) (total (map cost_of rs)) ++ count_lines full rs
text_parts full p t (events es) f =
    let rs : List Retiring = met_by p (seen_of t) (events es) in
    ap (λ (n : ℕ). why_header full ++ why_lines full 0 rs ++ total_line n (total (map cost_of rs)) ++ count_lines full rs)
    (sym (met_count p (seen_of t) es))
text_parts full p t (refused refusal) f = absurd f

module _ (ns : List ℕ) (rs : List Retiring) (each : (n : ℕ) → get_or ns n 0 ≡ counted n rs) where
  asked_lines : (full : Bool) → cond full (each_from 0 14 (count_text ns)) [] ≡ count_lines full rs
  asked_lines true = counts_so ns rs each
  asked_lines false = refl

  asked_most : length rs ≤ 3276 → (full : Bool) → length (cond full (each_from 0 14 (count_text ns)) []) ≤ 476
  asked_most h true = each_most (count_text ns) 34 0 14 (λ i l. count_most ns i (omega arith) (omega (arith, each i, counted_most i rs)))
  asked_most h false = omega arith

module _ (full : Bool) (p : Profile) (t : Oep060Timing) (said : Trace) (few : Few 0 said) (out : List ℕ) where
  abbrev rs : List Retiring
  rs = met_by p (seen_of t) said

  module _ (room : length (why_lines full 0 rs) + 579 ≤ length out) {a : ℕ} {after₁ : List ℕ} (h : written a after₁ ≡ written_of out 0 (why_header full)) where
    headed : Wrote out 0 (why_header full) a after₁
    headed = wrote out 0 (why_header full) (omega (arith, header_most full)) h

    pub lines_room : a + length (why_lines full 0 rs) ≤ length after₁
    lines_room = omega (arith, headed.place, headed.same, header_most full)

    module _ {put : Put} {after₂ : List ℕ} (l : Lined full after₁ a rs put after₂) where
      lined : Wrote out 0 (why_header full ++ why_lines full 0 rs) put.place after₂
      lined = wrote_more headed (why_lines full 0 rs) (omega (arith, headed.place, header_most full)) l.lines

      behind : put.place + 524 ≤ length out
      behind = omega (arith, lined.place, length-append (why_header full) (why_lines full 0 rs), header_most full)

      pub total_room : put.place + 48 ≤ length after₂
      total_room = omega (arith, behind, lined.same)

      module _ (n : put.count < 2 ^ 64) (s : put.total < 2 ^ 64) {b : ℕ} {after₃ : List ℕ} (d : written b after₃ ≡ written_of after₂ put.place (total_line put.count put.total)) where
        abbrev sums : List ℕ
        sums = total_line put.count put.total

        summed : Wrote out 0 (why_header full ++ why_lines full 0 rs ++ sums) b after₃
        summed = wrote_more lined sums (omega (arith, behind, total_most put.count put.total n s)) d

        at_counts : b + 476 ≤ length out
        at_counts = omega (arith, behind, lined.place, summed.place, length-append (why_header full ++ why_lines full 0 rs) sums, total_most put.count put.total n s)

        pub counts_room : b + length (cond full (each_from 0 14 (count_text put.counts)) []) ≤ length after₃
        counts_room = omega (arith, at_counts, summed.same, asked_most put.counts rs l.each (met_few p (seen_of t) said few) full)

        pub table_whole : {r : ℕ} {after₄ : List ℕ} → written r after₄ ≡ written_of after₃ b (cond full (each_from 0 14 (count_text put.counts)) [])
            → written r after₄ ≡ written_of out 0 (why_text_by full p said t)
        table_whole e =
            let w = wrote_more summed (cond full (each_from 0 14 (count_text put.counts)) []) (omega (arith, at_counts, asked_most put.counts rs l.each (met_few p (seen_of t) said few) full)) e in
            wrote_whole w
            ∙ ap (λ (x : List ℕ). written_of out 0 (why_header full ++ why_lines full 0 rs ++ sums ++ x)) (asked_lines put.counts rs l.each full)
            ∙ ap₂ (λ (k m : ℕ). written_of out 0 (why_header full ++ why_lines full 0 rs ++ total_line k m ++ count_lines full rs)) l.count l.sum
            ∙ sym (ap (written_of out 0) (text_parts full p t said few))
