-- How long the text of a query is.
use Rattle.std.proofs.Common.{ℕ, zero, suc, ◌+◌, ◌*◌, ◌≤◌, min, Bool, true, false, List, [], ◌∷◌, ◌++◌, length, drop, sym, ap, subst, arith, length-append, Option, Some, None}
use Rattle.std.proofs.lemmas.List.{length-take}
use Rattle.board_base.specs.Board.{Places}
use Rattle.board_base.specs.declared.men.Colour.{Colour}
use Rattle.board_base.specs.declared.moves.Move.{Move}
use Rattle.query_base.specs.Asked.{Asked}
use Rattle.board_base.specs.declared.men.Colour.TheVariants.{White, Black}
use Rattle.fen_text.specs.Spelling.{symbol, run_text, rank_text, turn_letter, rights_text, en_passant_text, spelling}
use Rattle.fen_text.specs.WrittenParts.{letter_if, rank_of, ranks_text}
use Rattle.fen_text.proofs.Spelled.{letters_are, spelled}
use Rattle.fen_text.proofs.WriteLemmas.{length_run}

rank_bound : (ps : Places) (run : ℕ) → length (rank_text run ps) ≤ min run 1 + length ps
rank_bound [] run = omega (arith, length_run run)
rank_bound (None ∷ ps) run = let rest = rank_bound ps (run + 1) in omega arith
rank_bound (Some m ∷ ps) run =
    let rest = rank_bound ps 0 in
    omega (arith, length_run run, length-append (run_text run) (symbol m.colour m.kind ∷ rank_text 0 ps))

eight : (n : ℕ) (board : Places) → length (rank_text 0 (rank_of n board)) ≤ 8
eight n board = let all = rank_bound (rank_of n board) 0 in omega (arith, length-take 8 (drop (8 * n) board))

ranks_bound : (n : ℕ) (board : Places) → length (ranks_text n board) ≤ 9 * n + 8
unfolding ranks_text
ranks_bound zero board = let first = eight 0 board in omega arith
ranks_bound (suc n) board =
    let first = eight (suc n) board in
    let rest = ranks_bound n board in
    omega (arith, length-append (rank_text 0 (rank_of (suc n) board)) (47 ∷ ranks_text n board))

letter_bound : (given : Bool) (letter : ℕ) → length (letter_if given letter) ≤ 1
letter_bound false letter = omega arith
letter_bound true letter = omega arith

letters_bound : (k q kk qq : Bool) → length (letter_if k 75 ++ letter_if q 81 ++ letter_if kk 107 ++ letter_if qq 113) ≤ 4
letters_bound k q kk qq =
    omega (
      arith,
      letter_bound k 75,
      letter_bound q 81,
      letter_bound kk 107,
      letter_bound qq 113,
      length-append (letter_if k 75) (letter_if q 81),
      length-append (letter_if k 75 ++ letter_if q 81) (letter_if kk 107),
      length-append (letter_if k 75 ++ letter_if q 81 ++ letter_if kk 107) (letter_if qq 113),
    )

rights_bound : (k q kk qq : Bool) → length (rights_text (record { white_short = k; white_long = q; black_short = kk; black_long = qq })) ≤ 4
rights_bound true q kk qq = subst (λ (l : List ℕ). length l ≤ 4) (sym (letters_are true q kk qq)) (letters_bound true q kk qq)
rights_bound false true kk qq = subst (λ (l : List ℕ). length l ≤ 4) (sym (letters_are false true kk qq)) (letters_bound false true kk qq)
rights_bound false false true qq = subst (λ (l : List ℕ). length l ≤ 4) (sym (letters_are false false true qq)) (letters_bound false false true qq)
rights_bound false false false true = letters_bound false false false true
rights_bound false false false false = omega arith

en_passant_bound : (c : Colour) (only : Option Move) → length (en_passant_text c only) ≤ 2
en_passant_bound c None = omega arith
en_passant_bound White (Some m) = omega arith
en_passant_bound Black (Some m) = omega arith

pub spelling_bound : (q : Asked) → length (spelling q) ≤ 81
spelling_bound q =
    let rights : List ℕ = rights_text q.held in
    let last : List ℕ = en_passant_text q.turn q.only in
    let first = ranks_bound 7 q.board in
    let third = rights_bound q.held.white_short q.held.white_long q.held.black_short q.held.black_long in
    let fourth = en_passant_bound q.turn q.only in
    omega (arith, ap length (spelled q), length-append (ranks_text 7 q.board) (32 ∷ turn_letter q.turn ∷ 32 ∷ (rights ++ 32 ∷ last)), length-append rights (32 ∷ last))
