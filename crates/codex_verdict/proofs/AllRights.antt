-- What is gathered are the rights of the position, and none of them promotes.
use Rattle.std.proofs.Common.{◌≡◌, ℕ, ◌≤◌, true, false, List, ◌++◌, ap, ◌∙◌}
use Rattle.std.proofs.lemmas.List.Elements.{All-append, All-contains_itself, All-map, All-same, All-weaker}
use Rattle.std.specs.Prelude.{Option, Some, None, IsSome}
use Rattle.std.specs.List.{All, Contains, filter}
use Rattle.board_base.specs.Board.{Places}
use Rattle.board_base.specs.declared.castles.Castle.{Castle}
use Rattle.board_base.specs.declared.men.Colour.{Colour}
use Rattle.board_base.specs.declared.moves.Move.{Move}
use Rattle.board_base.specs.Play.{all_castles}
use Rattle.castle_history.specs.Homes.{are_at_home}
use Rattle.ep_history.specs.Fits.{ep_fits}
use Rattle.general_lemmas.proofs.Filtered.{passes-filter}
use Rattle.general_lemmas.proofs.Lists.{contains-filter}
use Rattle.codex_verdict.specs.Rights.{AreRights}
use Rattle.codex_verdict.specs.Candidates.{captures_from, captures_of}
use Rattle.codex_verdict.specs.Verdicts.{Promotes}
use Rattle.codex_verdict.specs.declared.kinds.Right.{Right}
use Rattle.codex_verdict.specs.declared.kinds.Right.TheVariants.{Castling, EnPassant}
use Rattle.codex_verdict.proofs.Captures.{capture-plain, is-candidate, kept-ascend}
use Rattle.codex_verdict.proofs.Gathered.{left_from, left-end, made}

none-some : {A : Type 0} (o : Option A) → o ≡ None → IsSome o → ⊥
none-some {A} None none some = let e : false ≡ true = some in cc
none-some {A} (Some x) none some = cc

pub rights-are : (board : Places) (turn : Colour) (rights first : List Right) (file : ℕ) → 8 ≤ file → first ≡ made (λ x. Castling x) (are_at_home board) all_castles
    → rights ++ left_from (λ m. EnPassant m) (ep_fits board turn) (captures_from turn) file 8 ≡ first ++ left_from (λ m. EnPassant m) (ep_fits board turn) (captures_from turn) 0 8
    → AreRights board turn rights
unfolding captures_of
rights-are board turn rights first file past is built = record {
  captures = filter (ep_fits board turn) (captures_of turn);
  rights_are =
      left-end (λ m. EnPassant m) (ep_fits board turn) (captures_from turn) file 8 rights _ past built
      ∙ ap (λ (l : List Right). l ++ made (λ m. EnPassant m) (ep_fits board turn) (captures_of turn)) is;
  ascending = kept-ascend turn (ep_fits board turn);
  all = λ m. (
    λ there. passes-filter (ep_fits board turn) (captures_of turn) m there,
    λ fits. contains-filter (ep_fits board turn) (captures_of turn) m (is-candidate board turn m fits) fits,
  );
}

-- no right is a capture that promotes its pawn
pub rights-plain : (board : Places) (turn : Colour) (rights : List Right) → AreRights board turn rights → All (λ right. Promotes right → ⊥) rights
rights-plain board turn rights are =
    let Plain : Right → Type 0 = λ right. Promotes right → ⊥ in
    let castles = filter (are_at_home board) all_castles in
    let first = All-map Plain (λ (x : Castle). Castling x) castles (All-weaker (Contains castles) (λ x. Plain (Castling x)) (λ x there promotes. promotes) castles (All-contains_itself castles)) in
    let plain : (m : Move) → Contains are.captures m → Plain (EnPassant m) = λ m there promotes. none-some m.promo (capture-plain board turn m ((are.all m).0 there)) promotes in
    let last = All-map Plain (λ (m : Move). EnPassant m) are.captures (All-weaker (Contains are.captures) (λ m. Plain (EnPassant m)) plain are.captures (All-contains_itself are.captures)) in
    All-same Plain rights _ are.rights_are (All-append Plain _ _ first last)
