-- Of each label of a man whom a pawn took, the move that did so.
use Rattle.std.proofs.Common.{◌≡◌, ◌⊎◌, ℕ, Bool, true, false, inl, inr, List, [], ◌∷◌, ◌++◌, refl, ap, sym, ◌∙◌, subst}
use Rattle.std.proofs.lemmas.Bool.{and_parts, and_left, and_right, both_ways, cases_Bool, cond-true, cond-false, eq-eqb, not_from_true}
use Rattle.std.proofs.lemmas.List.{append_assoc}
use Rattle.std.specs.Prelude.{Option, Some}
use Rattle.std.specs.List.{Contains}
use Rattle.board_base.specs.Board.{Places, at, is_of, is_a, is_the, is_empty, opponent, file}
use Rattle.board_base.specs.Attacks.{files_apart, one_ahead}
use Rattle.board_base.specs.Play.{goes_en_passant, en_passant_victim}
use Rattle.board_base.specs.Game.{IsGame, board_after, turn_after, unmoved, last_move}
use Rattle.board_base.specs.declared.men.Colour.{Colour}
use Rattle.board_base.specs.declared.men.Kind.TheVariants.{Pawn}
use Rattle.board_base.specs.declared.men.Man.{Man}
use Rattle.board_base.specs.declared.moves.Move.{Move}
use Rattle.board_base.specs.declared.castles.Castle.{Castle}
use Rattle.play_rules.proofs.Legality.{Legality, legality}
use Rattle.play_rules.proofs.Games.{in_every_game}
use Rattle.men_account.specs.Labels.{labels_after}
use Rattle.men_account.specs.Captures.{taken_on, taken_by_pawn, captured_by_pawns, Takes, IsTakenIn}
use Rattle.general_lemmas.proofs.Differing.{Has, has-either, contains-has}
use Rattle.men_account.proofs.Labelled.{labels-each_man}
use Rattle.men_account.proofs.PawnWays.{PawnWay, straight, aslant, pawn-way, victim-pawn}
use Rattle.men_account.proofs.FilesLeft.{pawn-home}
use Rattle.men_account.proofs.Captured.{captured-more, taken-label, man-there, same-side}

-- a pawn who goes straight on takes nobody
straight-plain : (board : Places) (m : Move) → file m.from ≡ file m.to → goes_en_passant board m ≡ false
straight-plain board m same = and_left _ (is_empty (at board m.to)) (and_right (is_a Pawn (at board m.from)) _ (not_from_true _ (eq-eqb _ _ same)))

takes-nobody : (board : Places) (m : Move) (man : Man) → file m.from ≡ file m.to → is_empty (at board m.to) ≡ true → at board (taken_on board m) ≡ Some man → ⊥
takes-nobody board m man same free there =
    let here : taken_on board m ≡ m.to = cond-false _ (en_passant_victim m) m.to (straight-plain board m same) in
    both_ways _ (ap is_empty (subst (λ (s : ℕ). at board s ≡ Some man) here there)) free

goes-aslant : (board : Places) (c : Colour) (m : Move) (man : Man) → at board (taken_on board m) ≡ Some man → PawnWay board c m → (one_ahead c m.from m.to ≡ true) × (files_apart m.from m.to ≡ 1)
goes-aslant board c m man there (straight same on free) = absurd (takes-nobody board m man same free there)
goes-aslant board c m man there (aslant one ahead enemy) = (ahead, one)

takes-target : (board : Places) (c : Colour) (rights : Castle → Bool) (last : Option Move) (m : Move) → Legality board c rights last m → (taken_on board m ≡ m.to) ⊎ (is_the (opponent c) Pawn (at board (taken_on board m)) ≡ true)
takes-target board c rights last m legal = elim (cases_Bool (goes_en_passant board m)) [
  | inl past ↦ inr (subst (λ (s : ℕ). is_the (opponent c) Pawn (at board s) ≡ true) (sym (cond-true _ (en_passant_victim m) m.to past)) (victim-pawn board c rights last m past legal.manner))
  | inr plain ↦ inl (cond-false _ (en_passant_victim m) m.to plain)
]

takes-now : (o : List Bool) (c d : Colour) (rights : Castle → Bool) (last : Option Move) (l : ℕ) (g : List Move) (m : Move) → d ≡ c → IsGame o g → Legality (board_after o g) d rights last m → Has (taken_by_pawn c (board_after o g) (labels_after o g) m) l → Takes o c l g m
takes-now o c d rights last l g m side game legal h =
    let board : Places = board_after o g in
    let was = taken-label c board (labels_after o g) m l h in
    let pawn = and_parts (is_of c (at board m.from)) (is_a Pawn (at board m.from)) was.0 in
    let man = man-there board (labels_after o g) (taken_on board m) l (labels-each_man o g game) was.1 in
    let way : PawnWay board c m = subst (λ (x : Colour). PawnWay board x m) side (pawn-way board d rights last m pawn.1 legal.on_board legal.manner) in
    let went = goes-aslant board c m man.0 man.1 way in
    record {
      pawn = was.0;
      ahead = went.0;
      aside = went.1;
      label = was.1;
      target = elim (subst (λ (x : Colour). (taken_on board m ≡ m.to) ⊎ (is_the (opponent x) Pawn (at board (taken_on board m)) ≡ true)) side (takes-target board d rights last m legal)) [
        | inl here ↦ inl here
        | inr past ↦ inr (past, pawn-home o (opponent c) g game (taken_on board m) l man.0 was.1 man.1 (sym (ap (is_the (opponent c) Pawn) man.1) ∙ past))
      ];
    }

taken-later : (o : List Bool) (c : Colour) (l : ℕ) (g : List Move) (m : Move) → IsTakenIn o c l g → IsTakenIn o c l (g ++ m ∷ [])
taken-later o c l g m h = (h.0, h.1, h.2 ++ m ∷ [], ap (λ (x : List Move). x ++ m ∷ []) h.3 ∙ append_assoc h.0 (h.1 ∷ h.2) (m ∷ []), h.4)

taken-in : (o : List Bool) (c : Colour) (g : List Move) → IsGame o g → (l : ℕ) → Has (captured_by_pawns o g c) l → IsTakenIn o c l g
taken-in o c = in_every_game o (λ g. (l : ℕ) → Has (captured_by_pawns o g c) l → IsTakenIn o c l g)
    (λ l h. elim h [ ])
    (λ g m game allowed before l h.
    let legal = legality _ _ _ _ _ allowed in
    elim (has-either (captured_by_pawns o g c) (taken_by_pawn c (board_after o g) (labels_after o g) m) l (subst (λ (x : List ℕ). Has x l) (captured-more o g m c) h)) [
      | inl old ↦ taken-later o c l g m (before l old)
      | inr new ↦
          let was = taken-label c (board_after o g) (labels_after o g) m l new in
          let side : turn_after g ≡ c = same-side (turn_after g) c (at (board_after o g) m.from) legal.mover (and_parts (is_of c (at (board_after o g) m.from)) (is_a Pawn (at (board_after o g) m.from)) was.0).0 in
          (g, m, [], refl, takes-now o c (turn_after g) (unmoved o g) (last_move g) l g m side game legal new)
    ])

pub captured-moments : (o : List Bool) (g : List Move) (c : Colour) → IsGame o g → (l : ℕ) → Contains (captured_by_pawns o g c) l → IsTakenIn o c l g
captured-moments o g c game l h = taken-in o c g game l (contains-has (captured_by_pawns o g c) l h)
