-- What a ledger knows holds of every game.
use Rattle.std.proofs.Common.{◌≡◌, ℕ, ◌+◌, ◌<◌, ◌≤◌, ◌==◌, inl, inr, Bool, true, false, not, List, [], length, zero, suc, refl, ap, sym, subst, ◌∙◌, ◌⊎◌, append-nil, arith}
use Rattle.std.specs.Prelude.{◌&&◌, IsTrue, Option, None, Some, is_none, nat_le, nat_lt, slice_index_or}
use Rattle.std.specs.Bool.{beq}
use Rattle.std.proofs.lemmas.Bool.{and_from, and_parts, both_ways, cases_Bool, eq-eqb, leb-true, ltb-false, ltb-true, or_cases}
use Rattle.std.specs.List.{filter, range_with_len}
use Rattle.general_lemmas.proofs.Differing.{differ-filter, differ-range, has-filter, range-has}
use Rattle.general_lemmas.proofs.Ranges.{all_in_range, any-found}
use Rattle.board_base.proofs.KindsOfMen.{colour_is}
use Rattle.board_base.specs.Board.{Places, array_of, at, is_a, is_empty, is_in, is_of, is_the, same_colour}
use Rattle.board_base.specs.Game.{board_after}
use Rattle.board_base.specs.declared.men.Colour.{Colour}
use Rattle.board_base.specs.declared.men.Colour.TheVariants.{White, Black}
use Rattle.board_base.specs.declared.men.Kind.TheVariants.{Pawn}
use Rattle.board_base.specs.declared.men.Man.{Man}
use Rattle.board_base.specs.declared.moves.Move.{Move}
use Rattle.board_base.specs.Attacks.{files_apart}
use Rattle.men_account.specs.Labels.{label_at, labels_after}
use Rattle.men_fates.specs.Deeds.{way_of}
use Rattle.men_fates.specs.Ways.{captures_on, is_way, way_end}
use Rattle.men_fates.proofs.Goings.{pawn-ends}
use Rattle.men_fates.proofs.Roads.{way-past}
use Rattle.men_account.proofs.FilesLeft.{array-inside}
use Rattle.men_account.proofs.Labelled.{labels-colours, labels-each_man}
use Rattle.query_base.specs.Asked.{Asked}
use Rattle.query_base.specs.Reach.{Reaches}
use Rattle.cage_rules.specs.Frozen.{IsFrozen}
use Rattle.cage_rules.specs.Laws.{Caged}
use Rattle.cage_rules.specs.Reach.{LeadsTo}
use Rattle.cage_rules.specs.Regions.{beginner, is_officer_home, region}
use Rattle.cage_rules.proofs.Regions.{length-region}
use Rattle.cage_rules.proofs.Roamers.{in-region}
use Rattle.cage_rules.proofs.Tested.{member-inside}
use Rattle.cage_rules.proofs.WalledGames.{caged-walled}
use Rattle.cage_rules.proofs.Histories.{reaches-leads}
use Rattle.ledger_facts.specs.Refuted.{IsRuledOut}
use Rattle.ledger_facts.specs.Supposed.{captures}
use Rattle.ledger_facts.specs.declared.suppositions.Squares.{Squares}
use Rattle.ledger_facts.specs.declared.suppositions.Squares.TheVariants.{All, Dark, Light, Class}
use Rattle.ledger_facts.specs.declared.suppositions.Supposition.TheVariants.{Began as BeganAt, Stands, Gone}
use Rattle.ledger_facts.proofs.Known.{gone-so, has-captured, kept-file, less-than, more-than, never-promoted, struck-so, unstruck-so, was-promoted}
use Rattle.ledger_facts.proofs.Sound.{refuted}
use Rattle.ledger_search.specs.Ledgers.{AreCounts, IsLeast, IsLedger, IsLedgerOf, IsMost}
use Rattle.ledger_search.specs.Questions.{is_asked, is_man, only, shares_side}
use Rattle.ledger_search.specs.declared.counts.Range.{Range}
use Rattle.ledger_search.specs.declared.ledgers.Ledger.{Ledger}
use Rattle.ledger_search.specs.declared.questions.Question.TheVariants.{Home}
use Rattle.ledger_lines.specs.Facts.{Says, StayedOn, began_as_pawns}
use Rattle.ledger_lines.specs.Known.{AreMen, AreRuledOut, HasStayed, IsKnown, IsOnBoard, are_lacking, counts_of, has_few, has_taken, have_few, is_class, is_fallen, is_far, is_few, is_few_on, is_left, is_most, is_nearer, is_other_pawn, is_piece_home, is_piece_home_of, least_of, least_taken, most_aside, number_in, piece_homes, taken_by_others}
use Rattle.ledger_lines.specs.Losses.{losses_of}
use Rattle.ledger_lines.specs.Slants.{is_slant, slant}
use Rattle.ledger_lines.proofs.Counted.{count-within}
use Rattle.ledger_lines.proofs.FewTaken.{lacking-most, some-captured}
use Rattle.ledger_lines.proofs.FilesCrossed.{captured-once, files-crossed}
use Rattle.ledger_lines.proofs.MostAside.{most-captured}
use Rattle.ledger_lines.proofs.Promotions.{pawns-among}
use Rattle.ledger_lines.proofs.Shares.{IsShare, home_on, label-there, shares-add}
use Rattle.ledger_lines.proofs.Slanting.{slant-captured}
use Rattle.ledger_lines.specs.declared.facts.Fact.{Fact}
use Rattle.ledger_lines.specs.declared.facts.Fact.TheVariants.{Began, Original, Promoted, Captured, Took, TookAtMost, Slanted, Straight, Fell, FellToPawn, EscapedPawns, Became, NeverBecame, Stayed, AtLeast, AtMost, Lacks, Among}
use Rattle.ledger_search.proofs.Closing.{in-only, man-on}

pawn-man : (place : Option Man) → is_a Pawn place ≡ true → is_man place ≡ true
pawn-man None h = absurd (both_ways false refl h)
pawn-man (Some m) h = refl

colour-self : (c : Colour) → same_colour c c ≡ true
colour-self White = refl
colour-self Black = refl

from-not : (b : Bool) → not b ≡ false → b ≡ true
from-not true h = refl
from-not false h = absurd (both_ways true h refl)

not-not : (a b : Bool) → not (beq a b) ≡ false → b ≡ a
not-not true true h = refl
not-not true false h = absurd (both_ways true h refl)
not-not false true h = absurd (both_ways true h refl)
not-not false false h = refl

not-so : (b : Bool) → not b ≡ true → b ≡ false
not-so true h = absurd (both_ways false refl h)
not-so false h = refl

second-fails : (a b : Bool) → a ≡ true → not (a && b) ≡ true → b ≡ false
second-fails true b first h = not-so b h
second-fails false b first h = absurd (both_ways false refl first)

-- a home that is left is so many files away
far-away : (q : Asked) (l : Ledger) (s n h : ℕ) → is_far q l s n ≡ true → h < 64 → is_left q l s h ≡ true → n ≤ files_apart h s
unfolding is_far
far-away q l s n h far low left = ltb-false (files_apart h s) n (second-fails (is_left q l s h) (nat_lt (files_apart h s) n) left (all_in_range (λ k. not (is_nearer q l s n k)) 0 64 h far (omega arith) (omega arith)))

module _ (q : Asked) (l : Ledger) (set : List Bool) (frozen : IsFrozen q set) (is : IsLedger q l) (g : List Move) (leads : LeadsTo q.odds g q) where
  -- whoever stands on a square began on a home of his side that isn't ruled out
  not-barred : (s h : ℕ) → s < 64 → is_man (at q.board s) ≡ true → label_at (labels_after q.odds g) s ≡ Some h → (h < 64) × (is_asked (Home s) q.board (array_of q.odds) h ≡ true) × (is_in (slice_index_or l.homes s []) h ≡ false)
  not-barred s h inside here label =
      let m = man-on (at q.board s) here in
      let on : at (board_after q.odds g) s ≡ Some m.0 = ap (λ (b : Places). at b s) leads.board ∙ m.1 in
      let home = labels-colours q.odds g leads.game s h m.0 label on in
      let low : h < 64 = array-inside q.odds (is_of m.0.colour) h refl home in
      let asked : is_asked (Home s) q.board (array_of q.odds) h ≡ true = ap (λ (p : Option Man). shares_side p (at (array_of q.odds) h)) m.1 ∙ home in (
        low,
        asked,
        elim (cases_Bool (is_in (slice_index_or l.homes s []) h)) [
          | inl barred ↦
              let found = (is.homes s inside h low barred).1 in
              absurd (refuted (BeganAt s (only h)) q found.0 found.1 found.2 g leads (h, label, in-only h low))
          | inr open_to ↦ open_to
        ],
      )

  not-ruled-out : (s h : ℕ) (test : ℕ → Bool) → s < 64 → AreRuledOut q l s test → label_at (labels_after q.odds g) s ≡ Some h → test h ≡ false
  not-ruled-out s h test inside (here, all) label = elim (cases_Bool (test h)) [
    | inl passes ↦ let may = not-barred s h inside here label in absurd (both_ways _ may.2 (all h may.0 may.1 passes))
    | inr fails ↦ fails
  ]

  -- if he began as no pawn, that home counts
  piece-home : (men : List Bool) (s h : ℕ) → s < 64 → is_in men s ≡ true → is_man (at q.board s) ≡ true → label_at (labels_after q.odds g) s ≡ Some h → is_a Pawn (at (array_of q.odds) h) ≡ false → (h < 64) × (is_piece_home_of q l men h ≡ true)
  unfolding is_piece_home_of
  piece-home men s h inside there here label piece =
      let may = not-barred s h inside here label in (
        may.0,
        any-found (λ t. is_in men t && is_piece_home q l t h) 0 64 s (omega arith) (omega arith) (and_from _ _ there (and_from _ _ (and_from _ _ may.1 (ap not may.2)) (ap not piece))),
      )

  has-label : (s : ℕ) → is_man (at q.board s) ≡ true → is_none (label_at (labels_after q.odds g) s) ≡ false
  has-label s here =
      let m = man-on (at q.board s) here in
      labels-each_man q.odds g leads.game s ∙ ap (λ (b : Places). is_empty (at b s)) leads.board ∙ ap is_empty m.1

  among-holds : (men : List Bool) (n : ℕ) → AreMen q men → n + piece_homes q l men ≤ number_in men → n ≤ began_as_pawns q.odds g men
  unfolding piece_homes
  among-holds men n all few =
      let whole = pawns-among q.odds g men (is_piece_home_of q l men) leads.game (λ s h low there label piece. piece-home men s h low there (all s low there) label piece) (λ s low there. has-label s (all s low there)) in
      omega (arith, few, whole)

  -- the way of the pawn of a square leads to it
  arrived : (s h : ℕ) → is_a Pawn (at q.board s) ≡ true → label_at (labels_after q.odds g) s ≡ Some h → (c : Colour) × (is_way c set h (way_of q.odds g h) ≡ true) × (way_end h (way_of q.odds g h) ≡ s)
  arrived s h pawn label =
      let m = man-on (at q.board s) (pawn-man (at q.board s) pawn) in
      let on : at (board_after q.odds g) s ≡ Some m.0 = ap (λ (b : Places). at b s) leads.board ∙ m.1 in
      let home = labels-colours q.odds g leads.game s h m.0 label on in
      let caged : Caged q.odds g q set = record { leads = leads; frozen = frozen } in (
        m.0.colour,
        way-past q.odds g g [] set m.0.colour h (caged-walled q.odds g q set caged) (sym (append-nil g)) home,
        pawn-ends q.odds g leads.game s h label (ap (λ (b : Places). is_a Pawn (at b s)) leads.board ∙ pawn),
      )

  -- over as many files as it lies from his home, and over no more ranks
  came : (s h : ℕ) → is_a Pawn (at q.board s) ≡ true → label_at (labels_after q.odds g) s ≡ Some h → (files_apart h s ≤ length (captures_on h (way_of q.odds g h))) × (length (captures_on h (way_of q.odds g h)) ≤ most_aside h s)
  came s h pawn label =
      let it = arrived s h pawn label in
      let far = files-crossed it.0 set h (way_of q.odds g h) it.1 in
      let few = most-captured it.0 set h (way_of q.odds g h) it.1 in
      subst (λ (t : ℕ). (files_apart h t ≤ length (captures_on h (way_of q.odds g h))) × (length (captures_on h (way_of q.odds g h)) ≤ most_aside h t)) it.2 (far, few)

  -- along a diagonal, if he went to another file with each step
  slanted : (s h : ℕ) → is_a Pawn (at q.board s) ≡ true → label_at (labels_after q.odds g) s ≡ Some h → is_slant h s ≡ true → captures_on h (way_of q.odds g h) ≡ slant h s
  slanted s h pawn label slants =
      let it = arrived s h pawn label in
      let along = slant-captured it.0 set h (way_of q.odds g h) it.1 in
      subst (λ (t : ℕ). is_slant h t ≡ true → captures_on h (way_of q.odds g h) ≡ slant h t) it.2 along slants

  -- a home from which he came is left for him
  came-left : (s h : ℕ) → s < 64 → is_a Pawn (at q.board s) ≡ true → label_at (labels_after q.odds g) s ≡ Some h → (h < 64) × (is_left q l s h ≡ true)
  came-left s h inside pawn label =
      let may = not-barred s h inside (pawn-man (at q.board s) pawn) label in
      (may.0, and_from _ _ may.1 (ap not may.2))

  took-holds : (s n : ℕ) → s < 64 → is_a Pawn (at q.board s) ≡ true → has_taken q l s n ≡ true → (h : ℕ) → label_at (labels_after q.odds g) s ≡ Some h → n ≤ length (captures_on h (way_of q.odds g h))
  took-holds s n low pawn took h label = elim (or_cases (is_far q l s n) (nat_le n 1 && is_in l.captured s) took) [
    | inl far ↦
        let left = came-left s h low pawn label in
        omega (arith, far-away q l s n h far left.0 left.1, (came s h pawn label).0)
    | inr once ↦
        let both = and_parts (nat_le n 1) (is_in l.captured s) once in
        let it = is.captured s low both.1 in
        let aside = has-captured q s it.1 it.0 g leads h label in
        omega (arith, captured-once h (way_of q.odds g h) aside, leb-true n 1 both.0)
  ]

  least-took : (s h : ℕ) → s < 64 → is_a Pawn (at q.board s) ≡ true → label_at (labels_after q.odds g) s ≡ Some h → least_taken q l s ≤ length (captures_on h (way_of q.odds g h))
  unfolding least_taken
  least-took s h low pawn label =
      count-within (λ n. has_taken q l s (n + 1)) (length (captures_on h (way_of q.odds g h))) 7 (λ n known. let it = took-holds s (n + 1) low pawn known h label in omega arith)

  least-holds : (c : Colour) (squares : Squares) (n m : ℕ) → IsLeast c squares q m → n ≤ m → n ≤ captures q.odds g c squares
  least-holds c squares zero m least low = omega arith
  least-holds c squares (suc n) m least low =
      let more = more-than q c squares n (least.refuted n (omega arith)) g leads in
      omega arith

  most-holds : (c : Colour) (squares : Squares) (n m : ℕ) → IsMost c squares q m → m ≤ n → m < 16 → captures q.odds g c squares ≤ n
  most-holds c squares n m most low few =
      let less = less-than q c squares (m + 1) (most.refuted (m + 1) (omega arith) (omega arith)) g leads in
      omega arith

  in-counts : (c : Colour) → AreCounts c q (counts_of l c)
  in-counts White = is.white
  in-counts Black = is.black

  least-known : (c : Colour) (squares : Squares) → is_class squares ≡ true → IsLeast c squares q (least_of (counts_of l c) squares)
  least-known c All k = (in-counts c).all.least
  least-known c Dark k = (in-counts c).dark.least
  least-known c Light k = (in-counts c).light.least
  least-known c (Class n) k = (in-counts c).least_on n (ltb-true n 16 k)

  few-known : (c : Colour) (squares : Squares) (range : Range) (n : ℕ) → IsMost c squares q range.most → is_few range n ≡ true → captures q.odds g c squares ≤ n
  few-known c squares range n most few = let both = and_parts _ (nat_lt range.most 16) few in most-holds c squares n range.most most (leb-true range.most n both.0) (ltb-true range.most 16 both.1)

  all-few : (c : Colour) (squares : Squares) (n : ℕ) → is_few (counts_of l c).all n ≡ true → captures q.odds g c squares ≤ n
  all-few c squares n few = omega (arith, some-captured q.odds g c squares, few-known c All (counts_of l c).all n (in-counts c).all.most few)

  few-on-known : (c : Colour) (squares : Squares) (n : ℕ) → is_few_on (counts_of l c) squares n ≡ true → captures q.odds g c squares ≤ n
  few-on-known c All n k = few-known c All (counts_of l c).all n (in-counts c).all.most k
  few-on-known c Dark n k = few-known c Dark (counts_of l c).dark n (in-counts c).dark.most k
  few-on-known c Light n k = few-known c Light (counts_of l c).light n (in-counts c).light.most k
  few-on-known c (Class j) n k = all-few c (Class j) n k

  most-known : (c : Colour) (squares : Squares) (n : ℕ) → is_most (counts_of l c) squares n ≡ true → captures q.odds g c squares ≤ n
  most-known c squares n k = elim (or_cases (is_few_on (counts_of l c) squares n) (is_few (counts_of l c).all n) k) [
    | inl some ↦ few-on-known c squares n some
    | inr all ↦ all-few c squares n all
  ]

  side-few : (c : Colour) (squares : Squares) (n : ℕ) → have_few q l c squares n ≡ true → captures q.odds g c squares ≤ n
  side-few c squares n known = elim (or_cases (is_most (counts_of l c) squares n) (are_lacking q c n) known) [
    | inl most ↦ most-known c squares n most
    | inr lack ↦ lacking-most q c squares n g leads lack
  ]

  -- another pawn of his side has a home of its own, and captured as often as is known at least
  other-share : (c : Colour) (s t : ℕ) → t < 64 → is_other_pawn q c s t ≡ true → IsShare q.odds g c (least_taken q l) s t
  other-share c s t low pass =
      let both = and_parts (is_the c Pawn (at q.board t)) (not (t == s)) pass in
      let his = and_parts (is_of c (at q.board t)) (is_a Pawn (at q.board t)) both.0 in
      let m = man-on (at q.board t) (pawn-man (at q.board t) his.1) in
      let on : at (board_after q.odds g) t ≡ Some m.0 = ap (λ (b : Places). at b t) leads.board ∙ m.1 in
      let side : c ≡ m.0.colour = colour_is c m.0.colour (sym (ap (is_of c) m.1) ∙ his.0) in
      let label = label-there (label_at (labels_after q.odds g) t) (has-label t (pawn-man (at q.board t) his.1)) in
      let home = labels-colours q.odds g leads.game t (home_on q.odds g t) m.0 label on in
      record {
        other = λ same. both_ways (t == s) (not-so (t == s) both.1) (eq-eqb t s same);
        label = label;
        began = subst (λ (d : Colour). is_of d (at (array_of q.odds) (home_on q.odds g t)) ≡ true) (sym side) home;
        took = least-took t (home_on q.odds g t) low his.1 label;
      }

  -- a pawn and the others of his side made no more captures than all of them
  with-others : (c : Colour) (s h : ℕ) → label_at (labels_after q.odds g) s ≡ Some h → is_of c (at (array_of q.odds) h) ≡ true → length (captures_on h (way_of q.odds g h)) + taken_by_others q l c s ≤ captures q.odds g c All
  unfolding taken_by_others
  with-others c s h label home =
      shares-add q.odds g c (least_taken q l) (filter (is_other_pawn q c s) (range_with_len 0 64)) s h leads.game (differ-filter (is_other_pawn q c s) (range_with_len 0 64) (differ-range 0 64)) label home (λ t there.
      let passed = has-filter (is_other_pawn q c s) (range_with_len 0 64) t there in
      other-share c s t (range-has 0 64 t passed.1).1 passed.0)

  his-few : (m : Man) (s h n : ℕ) → label_at (labels_after q.odds g) s ≡ Some h → is_of m.colour (at (array_of q.odds) h) ≡ true → has_few q l s (Some m) n ≡ true → length (captures_on h (way_of q.odds g h)) ≤ n
  his-few m s h n label home few = omega (arith, with-others m.colour s h label home, side-few m.colour All (n + taken_by_others q l m.colour s) few)

  few-taken : (s n : ℕ) → s < 64 → is_a Pawn (at q.board s) ≡ true → (AreRuledOut q l s (λ h. nat_lt n (most_aside h s)) ⊎ IsTrue (has_few q l s (at q.board s) n)) → (h : ℕ) → label_at (labels_after q.odds g) s ≡ Some h → length (captures_on h (way_of q.odds g h)) ≤ n
  few-taken s n low pawn (inl near) h label =
      let it = not-ruled-out s h (λ k. nat_lt n (most_aside k s)) low near label in
      omega (arith, ltb-false n (most_aside h s) it, (came s h pawn label).1)
  few-taken s n low pawn (inr few) h label =
      let m = man-on (at q.board s) (pawn-man (at q.board s) pawn) in
      let on : at (board_after q.odds g) s ≡ Some m.0 = ap (λ (b : Places). at b s) leads.board ∙ m.1 in
      his-few m.0 s h n label (labels-colours q.odds g leads.game s h m.0 label on) (ap (λ (p : Option Man). has_few q l s p n) (sym m.1) ∙ few)

  module _ (h : ℕ) (inside : h < 64) where
    up : is_in l.fates.stands_promoted h ≡ true → IsRuledOut (Stands h true) q
    up it = (is.fates.stands_promoted h inside it).1

    down : is_in l.fates.stands h ≡ true → IsRuledOut (Stands h false) q
    down it = (is.fates.stands h inside it).1

    taken : is_in l.fates.taken h ≡ true → IsRuledOut (Gone h false false) q
    taken it = (is.fates.taken h inside it).1

    struck : is_in l.fates.struck h ≡ true → IsRuledOut (Gone h false true) q
    struck it = (is.fates.struck h inside it).1

    taken-later : is_in l.fates.taken_promoted h ≡ true → IsRuledOut (Gone h true false) q
    taken-later it = (is.fates.taken_promoted h inside it).1

    struck-later : is_in l.fates.struck_promoted h ≡ true → IsRuledOut (Gone h true true) q
    struck-later it = (is.fates.struck_promoted h inside it).1

    -- a man of a side began there
    owner : is_man (at (array_of q.odds) h) ≡ true → (c : Colour) × (is_of c (at (array_of q.odds) h) ≡ true)
    owner here = let m = man-on (at (array_of q.odds) h) here in (m.0.colour, ap (is_of m.0.colour) m.1 ∙ colour-self m.0.colour)

  -- an officer is in his region beside a set, and so on one of the squares
  stayed : (h : ℕ) (squares : List Bool) → HasStayed q h squares → StayedOn q.odds g h squares
  stayed h squares known before begins s label =
      let kept = known.1 in
      let home = and_parts (is_officer_home h) (not (is_in q.odds h)) known.0 in
      let caged : Caged q.odds g q kept.set = record { leads = leads; frozen = kept.frozen } in
      let there = (in-region q.odds g kept.set h (caged-walled q.odds g q kept.set caged) home.0 (not-so (is_in q.odds h) home.1) before begins s label).0 in
      kept.within s (member-inside (region kept.set h) s (length-region kept.set (beginner h) h) there) there

  pub holds : (x : Fact) → IsOnBoard x → IsKnown x q l → Says x q.odds g
  holds (Began s homes) on known = λ h label. from-not (is_in homes h) (not-ruled-out s h (λ k. not (is_in homes k)) on known label)
  holds (Original s) on known = λ h label. not-not false (is_a Pawn (at (array_of q.odds) h)) (not-ruled-out s h (λ k. not (beq false (is_a Pawn (at (array_of q.odds) k)))) on known label)
  holds (Promoted s) on known = λ h label. not-not true (is_a Pawn (at (array_of q.odds) h)) (not-ruled-out s h (λ k. not (beq true (is_a Pawn (at (array_of q.odds) k)))) on known label)
  holds (Captured s) on known = let it = is.captured s on known in has-captured q s it.1 it.0 g leads
  holds (Took s n) on known = took-holds s n on known.0 known.1
  holds (TookAtMost s n) on known = few-taken s n on known.0 known.1
  holds (Slanted s) on known = λ h label. slanted s h known label
  holds (Straight s) on known = let it = is.straight s on known in kept-file q s it.1 it.0 g leads
  holds (Fell h) on known =
      let b = and_parts _ (is_in l.fates.stands_promoted h) known in
      let a = and_parts (is_man (at (array_of q.odds) h)) (is_in l.fates.stands h) b.0 in
      let c = owner h on a.0 in
      gone-so q c.0 h c.1 g leads (up h on b.1) (down h on a.1)
  holds (FellToPawn h) on known = λ c home.
      let e = and_parts _ (is_in l.fates.taken_promoted h) known in
      let d = and_parts (is_fallen (array_of q.odds) l.fates h) (is_in l.fates.taken h) e.0 in
      let b = and_parts _ (is_in l.fates.stands_promoted h) d.0 in
      let a = and_parts (is_man (at (array_of q.odds) h)) (is_in l.fates.stands h) b.0 in
      struck-so q c h home g leads (up h on b.1) (down h on a.1) (taken-later h on e.1) (taken h on d.1)
  holds (EscapedPawns h) on known = λ c home.
      let b = and_parts _ (is_in l.fates.struck_promoted h) known in
      let a = and_parts (is_man (at (array_of q.odds) h)) (is_in l.fates.struck h) b.0 in
      unstruck-so q c h home g leads (struck-later h on b.1) (struck h on a.1)
  holds (Became h) on known = λ c home.
      let e = and_parts _ (is_in l.fates.struck h) known in
      let b = and_parts _ (is_in l.fates.taken h) e.0 in
      let a = and_parts (is_man (at (array_of q.odds) h)) (is_in l.fates.stands h) b.0 in
      was-promoted q c h home g leads (down h on a.1) (struck h on e.1) (taken h on b.1)
  holds (NeverBecame h) on known = λ c home.
      let e = and_parts _ (is_in l.fates.struck_promoted h) known in
      let b = and_parts _ (is_in l.fates.taken_promoted h) e.0 in
      let a = and_parts (is_man (at (array_of q.odds) h)) (is_in l.fates.stands_promoted h) b.0 in
      never-promoted q c h home g leads (up h on a.1) (struck-later h on e.1) (taken-later h on b.1)
  holds (Stayed h squares) on known = stayed h squares known
  holds (AtLeast c squares n) on known = least-holds c squares n (least_of (counts_of l c) squares) (least-known c squares on) (leb-true n _ known)
  holds (AtMost c squares n) on known = side-few c squares n known
  holds (Among men n) on known = among-holds men n known.0 known.1
  holds (Lacks c losses) on known = known ∙ ap (losses_of c (array_of q.odds)) (sym leads.board)

pub known-holds : (x : Fact) (q : Asked) (l : Ledger) → IsOnBoard x → IsLedgerOf q l → IsKnown x q l → (g : List Move) → LeadsTo q.odds g q → Says x q.odds g
known-holds x q l on is known g leads = holds q l is.set is.frozen is.ledger g leads x on known

pub known-reached : (x : Fact) (q : Asked) (l : Ledger) → IsOnBoard x → IsLedgerOf q l → IsKnown x q l → (g : List Move) → Reaches g q → Says x q.odds g
known-reached x q l on is known g reaches = known-holds x q l on is known g (reaches-leads g q reaches)
