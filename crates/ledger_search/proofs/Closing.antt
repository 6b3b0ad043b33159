-- A ledger that contradicts itself leaves no game.
use Rattle.std.proofs.Common.{◌≡◌, ℕ, ◌+◌, ◌-◌, ◌<◌, inl, inr, true, false, ◌||◌, List, refl, ap, ◌∙◌, arith}
use Rattle.std.proofs.lemmas.Bool.{and_parts, both_ways, ltb-true, or_cases}
use Rattle.std.proofs.lemmas.List.{get_or-set_same}
use Rattle.std.specs.Prelude.{Option, None, Some}
use Rattle.board_base.specs.Board.{Places, array_of, at, is_a, is_in, is_of, same_colour}
use Rattle.board_base.specs.Game.{board_after}
use Rattle.board_base.specs.SquareNumbers.{length-squares_of}
use Rattle.board_base.specs.declared.men.Colour.{Colour}
use Rattle.board_base.specs.declared.men.Colour.TheVariants.{White, Black}
use Rattle.board_base.specs.declared.men.Kind.TheVariants.{Pawn}
use Rattle.board_base.specs.declared.men.Man.{Man}
use Rattle.board_base.specs.declared.moves.Move.{Move}
use Rattle.men_account.specs.Labels.{label_at, labels_after}
use Rattle.men_account.proofs.FilesLeft.{array-inside}
use Rattle.men_account.proofs.Labelled.{labels-colours, labels-each_man}
use Rattle.men_account.proofs.Paired.{label-of}
use Rattle.query_base.specs.Asked.{Asked}
use Rattle.query_base.specs.Reach.{Reaches}
use Rattle.cage_rules.specs.Reach.{LeadsTo}
use Rattle.cage_rules.proofs.Histories.{reaches-leads}
use Rattle.ledger_facts.specs.declared.suppositions.Squares.{Squares}
use Rattle.ledger_facts.specs.declared.suppositions.Squares.TheVariants.{All, Dark, Light}
use Rattle.ledger_facts.specs.declared.suppositions.Supposition.TheVariants.{Began}
use Rattle.ledger_facts.proofs.Known.{has-captured, kept-file, less-than, more-than, never-promoted, was-promoted}
use Rattle.ledger_facts.proofs.Sound.{refuted}
use Rattle.ledger_search.specs.Contradictions.{IsContradictory, IsHomeless, are_void, has_no_fate, is_torn, is_void}
use Rattle.ledger_search.specs.Ledgers.{AreCounts, IsLedger, IsLedgerOf, IsRange}
use Rattle.ledger_search.specs.Questions.{is_asked, is_man, only, shares_side}
use Rattle.ledger_search.specs.declared.counts.Counts.{Counts}
use Rattle.ledger_search.specs.declared.counts.Range.{Range}
use Rattle.ledger_search.specs.declared.ledgers.Ledger.{Ledger}
use Rattle.ledger_search.specs.declared.questions.Question.TheVariants.{Home}

pub man-on : (place : Option Man) → is_man place ≡ true → (m : Man) × (place ≡ Some m)
man-on None h = absurd (both_ways false refl h)
man-on (Some m) h = (m, refl)

pawn-on : (place : Option Man) → is_a Pawn place ≡ true → (m : Man) × (place ≡ Some m)
pawn-on None h = absurd (both_ways false refl h)
pawn-on (Some m) h = (m, refl)

colour-self : (c : Colour) → same_colour c c ≡ true
colour-self White = refl
colour-self Black = refl

pub in-only : (h : ℕ) → h < 64 → is_in (only h) h ≡ true
in-only h inside = get_or-set_same _ h true false (omega (arith, inside, length-squares_of 0))

module _ (q : Asked) (g : List Move) (leads : LeadsTo q.odds g q) where
  -- whoever stands on a square began somewhere
  label-there : (s : ℕ) (m : Man) → at q.board s ≡ Some m → (h : ℕ) × (label_at (labels_after q.odds g) s ≡ Some h) × (is_of m.colour (at (array_of q.odds) h) ≡ true)
  label-there s m there =
      let on : at (board_after q.odds g) s ≡ Some m = ap (λ (b : Places). at b s) leads.board ∙ there in
      let label = label-of (at (board_after q.odds g) s) (label_at (labels_after q.odds g) s) m on (labels-each_man q.odds g leads.game s) in
      (label.0, label.1, labels-colours q.odds g leads.game s label.0 m label.1 on)

  module _ (l : Ledger) (is : IsLedger q l) where
    no-homeless : (s : ℕ) → s < 64 → IsHomeless q l s → ⊥
    no-homeless s inside (here, all) =
        let m = man-on (at q.board s) here in
        let label = label-there s m.0 m.1 in
        let h : ℕ = label.0 in
        let low : h < 64 = array-inside q.odds (is_of m.0.colour) h refl label.2 in
        let asked : is_asked (Home s) q.board (array_of q.odds) h ≡ true = ap (λ (p : Option Man). shares_side p (at (array_of q.odds) h)) m.1 ∙ label.2 in
        let found = (is.homes s inside h low (all h low asked)).1 in
        refuted (Began s (only h)) q found.0 found.1 found.2 g leads (h, label.1, in-only h low)

    no-torn : (s : ℕ) → s < 64 → is_torn l s ≡ true → ⊥
    no-torn s inside torn =
        let both = and_parts (is_in l.captured s) (is_in l.straight s) torn in
        let first = is.captured s inside both.0 in
        let second = is.straight s inside both.1 in
        let m = pawn-on (at q.board s) first.0 in
        let label = label-there s m.0 m.1 in
        both_ways _ (has-captured q s first.1 first.0 g leads label.0 label.1) (kept-file q s second.1 first.0 g leads label.0 label.1)

    no-fate : (h : ℕ) → h < 64 → has_no_fate q l.fates h ≡ true → ⊥
    no-fate h inside none =
        let f = l.fates in
        let e = and_parts _ (is_in f.struck_promoted h) none in
        let d = and_parts _ (is_in f.taken_promoted h) e.0 in
        let c = and_parts _ (is_in f.struck h) d.0 in
        let b = and_parts _ (is_in f.taken h) c.0 in
        let a = and_parts _ (is_in f.stands_promoted h) b.0 in
        let z = and_parts (is_man (at (array_of q.odds) h)) (is_in f.stands h) a.0 in
        let m = man-on (at (array_of q.odds) h) z.0 in
        let home : is_of m.0.colour (at (array_of q.odds) h) ≡ true = ap (is_of m.0.colour) m.1 ∙ colour-self m.0.colour in
        let stands = (is.fates.stands h inside z.1).1 in
        let turned = (is.fates.stands_promoted h inside a.1).1 in
        let taken = (is.fates.taken h inside b.1).1 in
        let struck = (is.fates.struck h inside c.1).1 in
        let taken_later = (is.fates.taken_promoted h inside d.1).1 in
        let struck_later = (is.fates.struck_promoted h inside e.1).1 in
        both_ways _ (never-promoted q m.0.colour h home g leads turned struck_later taken_later) (was-promoted q m.0.colour h home g leads stands struck taken)

    no-void : (c : Colour) (squares : Squares) (r : Range) → IsRange c squares q r → is_void r ≡ true → ⊥
    no-void c squares r range void =
        let less : r.most < r.least = ltb-true r.most r.least void in
        let few = range.least.few in
        let low = more-than q c squares (r.least - 1) (range.least.refuted (r.least - 1) (omega arith)) g leads in
        let high = less-than q c squares (r.most + 1) (range.most.refuted (r.most + 1) (omega arith) (omega arith)) g leads in
        omega arith

    no-voids : (c : Colour) (counts : Counts) → AreCounts c q counts → are_void counts ≡ true → ⊥
    no-voids c counts are void = elim (or_cases (is_void counts.all || is_void counts.dark) (is_void counts.light) void) [
      | inl first ↦ elim (or_cases (is_void counts.all) (is_void counts.dark) first) [
        | inl whole ↦ no-void c All counts.all are.all whole
        | inr dark ↦ no-void c Dark counts.dark are.dark dark
      ]
      | inr light ↦ no-void c Light counts.light are.light light
    ]

    pub no-contradiction : IsContradictory q l → ⊥
    no-contradiction (inl here) =
        let inside : here.0 < 64 = here.1 in
        elim here.2 [
          | inl homeless ↦ no-homeless here.0 inside homeless
          | inr other ↦ elim (or_cases (is_torn l here.0) (has_no_fate q l.fates here.0) other) [
            | inl torn ↦ no-torn here.0 inside torn
            | inr none ↦ no-fate here.0 inside none
          ]
        ]
    no-contradiction (inr void) = elim (or_cases (are_void l.white) (are_void l.black) void) [
      | inl white ↦ no-voids White l.white is.white white
      | inr black ↦ no-voids Black l.black is.black black
    ]

pub closed : (q : Asked) (l : Ledger) → IsLedgerOf q l → IsContradictory q l → (g : List Move) → LeadsTo q.odds g q → ⊥
closed q l is contradiction g leads = no-contradiction q g leads l is.ledger contradiction

pub closed-reached : (q : Asked) (l : Ledger) → IsLedgerOf q l → IsContradictory q l → (g : List Move) → Reaches g q → ⊥
closed-reached q l is contradiction g reaches = closed q l is contradiction g (reaches-leads g q reaches)
