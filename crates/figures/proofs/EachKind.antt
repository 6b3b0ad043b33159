-- Tests of each kind of a set.
use Rattle.std.proofs.Common.{◌≡◌, Bool, true, false, ◌&&◌, ◌||◌, not, List, [], refl, ap, ◌∙◌}
use Rattle.std.specs.List.{list_all, list_any}
use Rattle.board_base.specs.declared.men.Kind.{Kind}
use Rattle.board_base.specs.declared.men.Kind.TheVariants.{Pawn, Knight, Bishop, Rook, Queen, King}
use Rattle.figures.specs.Kinds.{kinds_of, one_if}

any-one : (p : Kind → Bool) (b : Bool) (k : Kind) (l : List Kind) → ((b && p k) || list_any p l) ≡ list_any p (one_if b k l)
any-one p true k l = refl
any-one p false k l = refl

all-one : (p : Kind → Bool) (b : Bool) (k : Kind) (l : List Kind) → ((not b || p k) && list_all p l) ≡ list_all p (one_if b k l)
all-one p true k l = refl
all-one p false k l = refl

or-false : (b : Bool) → b ≡ (b || false)
or-false true = refl
or-false false = refl

and-true : (b : Bool) → b ≡ (b && true)
and-true true = refl
and-true false = refl

pub any-kinds : (t : Kind → Bool) (p n b r q k : Bool) → ((p && t Pawn) || ((n && t Knight) || ((b && t Bishop) || ((r && t Rook) || ((q && t Queen) || (k && t King)))))) ≡ list_any t (kinds_of p n b r q k)
any-kinds t p n b r q k =
    ap (λ (x : Bool). (p && t Pawn) || ((n && t Knight) || ((b && t Bishop) || ((r && t Rook) || ((q && t Queen) || x))))) (or-false (k && t King) ∙ any-one t k King [])
    ∙ ap (λ (x : Bool). (p && t Pawn) || ((n && t Knight) || ((b && t Bishop) || ((r && t Rook) || x)))) (any-one t q Queen (one_if k King []))
    ∙ ap (λ (x : Bool). (p && t Pawn) || ((n && t Knight) || ((b && t Bishop) || x))) (any-one t r Rook (one_if q Queen (one_if k King [])))
    ∙ ap (λ (x : Bool). (p && t Pawn) || ((n && t Knight) || x)) (any-one t b Bishop (one_if r Rook (one_if q Queen (one_if k King []))))
    ∙ ap (λ (x : Bool). (p && t Pawn) || x) (any-one t n Knight (one_if b Bishop (one_if r Rook (one_if q Queen (one_if k King [])))))
    ∙ any-one t p Pawn (one_if n Knight (one_if b Bishop (one_if r Rook (one_if q Queen (one_if k King [])))))

pub all-kinds : (t : Kind → Bool) (p n b r q k : Bool) → ((not p || t Pawn) && ((not n || t Knight) && ((not b || t Bishop) && ((not r || t Rook) && ((not q || t Queen) && (not k || t King)))))) ≡ list_all t (kinds_of p n b r q k)
all-kinds t p n b r q k =
    ap (λ (x : Bool). (not p || t Pawn) && ((not n || t Knight) && ((not b || t Bishop) && ((not r || t Rook) && ((not q || t Queen) && x))))) (and-true (not k || t King) ∙ all-one t k King [])
    ∙ ap (λ (x : Bool). (not p || t Pawn) && ((not n || t Knight) && ((not b || t Bishop) && ((not r || t Rook) && x)))) (all-one t q Queen (one_if k King []))
    ∙ ap (λ (x : Bool). (not p || t Pawn) && ((not n || t Knight) && ((not b || t Bishop) && x))) (all-one t r Rook (one_if q Queen (one_if k King [])))
    ∙ ap (λ (x : Bool). (not p || t Pawn) && ((not n || t Knight) && x)) (all-one t b Bishop (one_if r Rook (one_if q Queen (one_if k King []))))
    ∙ ap (λ (x : Bool). (not p || t Pawn) && x) (all-one t n Knight (one_if b Bishop (one_if r Rook (one_if q Queen (one_if k King [])))))
    ∙ all-one t p Pawn (one_if n Knight (one_if b Bishop (one_if r Rook (one_if q Queen (one_if k King [])))))
