use Rattle.std.proofs.Common.{◌≡◌, ◌++◌, ◌∷◌, [], List, ℕ, ap, ◌∙◌, Some, None}
use Rattle.board_base.specs.Board.{no_odds}
use Rattle.query_base.specs.Asked.{Asked}
use Rattle.fen_text.specs.Spelling.{spelling, rights_text, en_passant_text, turn_letter}
use Rattle.fen_text.specs.WrittenParts.{ranks_text}
use Rattle.fen_text.specs.Fen.{fen}
use Rattle.fen_text.proofs.Back.{text_back, whole}
use Rattle.fen_text.proofs.WriteLemmas.{joined}
use Rattle.fen_text.proofs.writing.write_fen.Goals as goal

written : (c : goal.After-write_en_passant) → c.write_en_passant.new.out.items ≡ ranks_text 7 c.query.inside.board ++ 32 ∷ turn_letter c.query.inside.turn ∷ 32 ∷ (rights_text c.query.inside.held ++ 32 ∷ en_passant_text c.query.inside.turn c.query.inside.only)
written c =
    let e1 = c.push.ensures.items ∙ ap (λ (l : List ℕ). l ++ 32 ∷ []) c.write_ranks.ensures.text in
    let e2 = c.push-2.ensures.items ∙ ap (λ (l : List ℕ). l ++ c.turn_letter.result ∷ []) e1 in
    let e3 = c.push-3.ensures.items ∙ ap (λ (l : List ℕ). l ++ 32 ∷ []) e2 in
    let e4 = c.write_rights.ensures.text ∙ ap (λ (l : List ℕ). l ++ rights_text c.query.inside.held) e3 in
    let e5 = c.push-4.ensures.items ∙ ap (λ (l : List ℕ). l ++ 32 ∷ []) e4 in
    let e6 = c.write_en_passant.ensures.text ∙ ap (λ (l : List ℕ). l ++ en_passant_text c.query.inside.turn c.query.inside.only) e5 in
    e6 ∙ joined (ranks_text 7 c.query.inside.board) (rights_text c.query.inside.held) (en_passant_text c.query.inside.turn c.query.inside.only) c.turn_letter.result
    ∙ ap (λ (t : ℕ). ranks_text 7 c.query.inside.board ++ 32 ∷ t ∷ 32 ∷ (rights_text c.query.inside.held ++ 32 ∷ en_passant_text c.query.inside.turn c.query.inside.only)) c.turn_letter.ensures

pub returns-clause-text : goal.returns-clause-text
unfolding spelling ranks_text
returns-clause-text c = written c ∙ ap spelling c.query.view_is

pub returns-clause-read : goal.returns-clause-read
returns-clause-read c =
    ap fen (written c) ∙ text_back c.query.inside.board c.query.inside.turn c.query.inside.held c.query.inside.only c.is_whole.ensures c.query.invariant.0
    ∙ ap (λ (x : Asked). Some (x, None)) (whole (record { board = c.query.inside.board; turn = c.query.inside.turn; odds = c.query.inside.odds; held = c.query.inside.held; only = c.query.inside.only; barred = c.query.inside.barred; clock = c.query.inside.clock }) (ap (λ (x : Asked). x.barred) c.query.view_is ∙ c.requires.plain) ∙ ap (λ (x : Asked). record x { odds = no_odds; clock = None }) c.query.view_is)
