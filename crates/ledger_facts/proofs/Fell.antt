-- A man whom a pawn took as a pawn was never promoted, and else his whole way brings him there as an officer.
use Rattle.std.proofs.Common.{◌≡◌, ◌⊎◌, ℕ, ◌==◌, inl, inr, Bool, true, false, List, ◌∷◌, ◌++◌, [], refl, ap, sym, ◌∙◌, subst}
use Rattle.std.proofs.lemmas.Bool.{and_parts, both_ways, cases_Bool, cond-false, cond-true, false_from_ne_true, or_left, or_right}
use Rattle.std.specs.Prelude.{Some}
use Rattle.std.specs.List.{Contains}
use Rattle.board_base.specs.Board.{Places, array_of, at, is_a, is_of, is_the, opponent, rank, same_kind}
use Rattle.board_base.specs.Game.{IsGame, board_after, turn_after, unmoved, last_move}
use Rattle.board_base.specs.Legal.{last_rank}
use Rattle.board_base.specs.Play.{en_passant_victim, goes_en_passant}
use Rattle.board_base.specs.declared.men.Colour.{Colour}
use Rattle.board_base.specs.declared.men.Colour.TheVariants.{White, Black}
use Rattle.board_base.specs.declared.men.Kind.{Kind}
use Rattle.board_base.specs.declared.men.Kind.TheVariants.{Pawn}
use Rattle.board_base.specs.declared.moves.Move.{Move}
use Rattle.play_rules.specs.Laws.{is_end}
use Rattle.play_rules.proofs.Ends.{no_pawn_on_ends}
use Rattle.play_rules.proofs.Legality.{Legality}
use Rattle.men_account.specs.Captures.{taken_on}
use Rattle.men_account.specs.Labels.{label_at, labels_after}
use Rattle.men_account.proofs.Captured.{man-there}
use Rattle.men_account.proofs.Labelled.{labels-each_man}
use Rattle.men_account.proofs.PawnWays.{victim-pawn}
use Rattle.cage_rules.specs.Laws.{Walled}
use Rattle.men_fates.specs.Deeds.{Strike, strikes, way_of}
use Rattle.men_fates.specs.Fates.{brings}
use Rattle.men_fates.specs.Ways.{way_end}
use Rattle.men_fates.proofs.Blows.{Blow, falling-rests, fallen-rests, in-each-blow}
use Rattle.men_fates.proofs.Brought.{brought}
use Rattle.men_fates.proofs.Goings.{pawn-ends}

-- his way doesn't end on the last rank, or it brings him to s as an officer
abbrev pub FellAs : List Bool → Colour → ℕ → List ℕ → ℕ → Type 0
FellAs set c h whole s = ((rank (way_end h whole) == last_rank c) ≡ false) ⊎ ((k : Kind) × (same_kind Pawn k ≡ false) × (brings set c h whole k s ≡ true))

-- a square on neither end isn't on the last rank
not-last : (c : Colour) (s : ℕ) → is_end s ≡ false → (rank s == last_rank c) ≡ false
not-last White s inner = false_from_ne_true (rank s == 7) (λ last. both_ways (is_end s) inner (or_right (rank s == 0) (rank s == 7) last))
not-last Black s inner = false_from_ne_true (rank s == 0) (λ last. both_ways (is_end s) inner (or_left (rank s == 0) (rank s == 7) last))

fell-as-now : (o : List Bool) (g k after : List Move) (m : Move) (set : List Bool) (c : Colour) (x : Strike) → Walled o g set → g ≡ k ++ m ∷ after → IsGame o k → Legality (board_after o k) (turn_after k) (unmoved o k) (last_move k) m → is_the c Pawn (at (array_of o) x.of) ≡ true → Blow (board_after o k) (labels_after o k) (opponent c) m x → FellAs set c x.of (way_of o k x.of) m.to
fell-as-now o g k after m set c x walled e game legal first b =
    let board : Places = board_after o k in
    elim (cases_Bool (is_a Pawn (at board (taken_on board m)))) [
      | inl pawn ↦
          let ends : way_end x.of (way_of o k x.of) ≡ taken_on board m = pawn-ends o k game (taken_on board m) x.of b.of pawn in
          let inner : is_end (taken_on board m) ≡ false = false_from_ne_true _ (λ end. both_ways _ (no_pawn_on_ends o k game (taken_on board m) end) pawn) in
          inl (ap (λ (t : ℕ). rank t == last_rank c) ends ∙ not-last c (taken_on board m) inner)
      | inr piece ↦ elim (cases_Bool (goes_en_passant board m)) [
        | inl past ↦
            let on : taken_on board m ≡ en_passant_victim m = cond-true (goes_en_passant board m) (en_passant_victim m) m.to past in
            let victim = victim-pawn board (turn_after k) (unmoved o k) (last_move k) m past legal.manner in
            let pawn : is_a Pawn (at board (en_passant_victim m)) ≡ true = (and_parts (is_of (opponent (turn_after k)) (at board (en_passant_victim m))) (is_a Pawn (at board (en_passant_victim m))) victim).1 in
            absurd (both_ways _ piece (ap (λ (s : ℕ). is_a Pawn (at board s)) on ∙ pawn))
        | inr plain ↦
            let on : taken_on board m ≡ m.to = cond-false (goes_en_passant board m) (en_passant_victim m) m.to plain in
            let label : label_at (labels_after o k) m.to ≡ Some x.of = ap (label_at (labels_after o k)) (sym on) ∙ b.of in
            let who = man-there board (labels_after o k) m.to x.of (labels-each_man o k game) label in
            let kind : same_kind Pawn who.0.kind ≡ false = sym (ap (is_a Pawn) who.1) ∙ ap (λ (s : ℕ). is_a Pawn (at board s)) (sym on) ∙ piece in
            inr (who.0.kind, kind, brought o g k (m ∷ after) set c x.of m.to who.0 walled e first label who.1)
      ]
    ]

as-moved : (set : List Bool) (c : Colour) (h : ℕ) (old new : List ℕ) (s t : ℕ) → old ≡ new → s ≡ t → FellAs set c h old s → FellAs set c h new t
as-moved set c h old new s t e f fell = subst (FellAs set c h new) f (subst (λ (w : List ℕ). FellAs set c h w s) e fell)

pub each-fell-as : (o : List Bool) (g : List Move) (set : List Bool) (c : Colour) → Walled o g set → (x : Strike) → Contains (strikes o g (opponent c)) x → is_the c Pawn (at (array_of o) x.of) ≡ true → FellAs set c x.of (way_of o g x.of) x.on
each-fell-as o g set c walled =
    in-each-blow o g (opponent c) (λ k x. is_the c Pawn (at (array_of o) x.of) ≡ true → FellAs set c x.of (way_of o k x.of) x.on)
    (λ k after m x e game old here first. as-moved set c x.of (way_of o k x.of) (way_of o (k ++ m ∷ []) x.of) x.on x.on (sym (fallen-rests o k m (opponent c) x game old)) refl (here first))
    (λ k after m x e game legal b first.
    as-moved set c x.of (way_of o k x.of) (way_of o (k ++ m ∷ []) x.of) m.to x.on (sym (falling-rests o k m c x game (and_parts (is_of c (at (array_of o) x.of)) (is_a Pawn (at (array_of o) x.of)) first).0 b)) b.on
    (fell-as-now o g k after m set c x walled e game legal first b))
    walled.game
