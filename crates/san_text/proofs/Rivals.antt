-- What is told of an origin leaves no rival.
use Rattle.std.proofs.Common.{◌≡◌, ◌≢◌, ◌<◌, ◌==◌, ℕ, Bool, true, false, cond, ◌&&◌, inl, inr, refl, sym, arith}
use Rattle.std.proofs.lemmas.Bool.{and_from, eqb-true, eq-eqb, cases_eq}
use Rattle.std.specs.Prelude.{Some, None}
use Rattle.general_lemmas.proofs.Ranges.{any-found}
use Rattle.board_base.specs.Board.{file, rank}
use Rattle.board_base.specs.declared.men.Kind.{Kind}
use Rattle.board_base.specs.declared.men.Kind.TheVariants.{Pawn, Knight, Bishop, Rook, Queen, King}
use Rattle.board_base.specs.declared.moves.Move.{Move}
use Rattle.play_rules.specs.States.{Position}
use Rattle.san_text.specs.Fits.{allows, captures}
use Rattle.san_text.specs.Spelling.{told, origin_of, any_rival, is_rival, shares}
use Rattle.san_text.specs.declared.naming.Shared.{Shared}
use Rattle.san_text.specs.declared.naming.Shared.TheVariants.{Board, File, Rank}

-- a rival who shares this with the origin
pub rival_here : (shared : Shared) (p : Position) (k : Kind) (m : Move) (s : ℕ) → s < 64 → shares shared s m.from ≡ true → is_rival p k m s ≡ true → any_rival shared p k m ≡ true
unfolding any_rival
rival_here shared p k m s low common rival = any-found (λ t. shares shared t m.from && is_rival p k m t) 0 64 s (omega arith) (omega arith) (and_from _ _ common rival)

-- a square that what is told allows is the origin
told_alone : (a b c : Bool) (s t : ℕ) → allows (told a b c s).0 (file t) ≡ true → allows (told a b c s).1 (rank t) ≡ true → (t ≢ s → a ≡ true) → (t ≢ s → (file t == file s) ≡ true → b ≡ true) → (t ≢ s → (rank t == rank s) ≡ true → c ≡ true) → t ≡ s
told_alone false b c s t f r any on_file on_rank = elim (cases_eq t s) [
  | inl same ↦ same
  | inr differ ↦ absurd (let never : false ≡ true = any differ in cc)
]
told_alone true false c s t f r any on_file on_rank = elim (cases_eq t s) [
  | inl same ↦ same
  | inr differ ↦ absurd (let never : false ≡ true = on_file differ (eq-eqb _ _ (sym (eqb-true _ _ f))) in cc)
]
told_alone true true false s t f r any on_file on_rank = elim (cases_eq t s) [
  | inl same ↦ same
  | inr differ ↦ absurd (let never : false ≡ true = on_rank differ (eq-eqb _ _ (sym (eqb-true _ _ r))) in cc)
]
told_alone true true true s t f r any on_file on_rank =
    let files : file s ≡ file t = eqb-true _ _ f in
    let ranks : rank s ≡ rank t = eqb-true _ _ r in
    omega arith

-- a man of the kind, who may go to the target from a square that is told, stands on the origin
pub piece_alone : (p : Position) (k : Kind) (m : Move) (t : ℕ) → t < 64 → allows (told (any_rival Board p k m) (any_rival File p k m) (any_rival Rank p k m) m.from).0 (file t) ≡ true → allows (told (any_rival Board p k m) (any_rival File p k m) (any_rival Rank p k m) m.from).1 (rank t) ≡ true → (t ≢ m.from → is_rival p k m t ≡ true) → t ≡ m.from
piece_alone p k m t low f r rival =
    told_alone (any_rival Board p k m) (any_rival File p k m) (any_rival Rank p k m) m.from t f r
    (λ differ. rival_here Board p k m t low refl (rival differ))
    (λ differ common. rival_here File p k m t low common (rival differ))
    (λ differ common. rival_here Rank p k m t low common (rival differ))

told_allows : (a b c : Bool) (s : ℕ) → (allows (told a b c s).0 (file s) ≡ true) × (allows (told a b c s).1 (rank s) ≡ true)
told_allows false b c s = (refl, refl)
told_allows true false c s = (eq-eqb _ _ refl, refl)
told_allows true true false s = (refl, eq-eqb _ _ refl)
told_allows true true true s = (eq-eqb _ _ refl, eq-eqb _ _ refl)

pawn_allows : (b : Bool) (s : ℕ) → allows (cond b (Some (file s)) None) (file s) ≡ true
pawn_allows true s = eq-eqb _ _ refl
pawn_allows false s = refl

-- what is told of the origin is so
pub origin_allows : (p : Position) (k : Kind) (m : Move) → (allows (origin_of p k m).0 (file m.from) ≡ true) × (allows (origin_of p k m).1 (rank m.from) ≡ true)
origin_allows p Pawn m = (pawn_allows (captures p.board m) m.from, refl)
origin_allows p Knight m = told_allows _ _ _ m.from
origin_allows p Bishop m = told_allows _ _ _ m.from
origin_allows p Rook m = told_allows _ _ _ m.from
origin_allows p Queen m = told_allows _ _ _ m.from
origin_allows p King m = told_allows _ _ _ m.from
