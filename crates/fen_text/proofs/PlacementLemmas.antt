-- Ranks of a placement.
use Rattle.std.proofs.Common.{◌≡◌, ℕ, zero, suc, ◌+◌, ◌-◌, ◌*◌, ◌<◌, ◌==◌, true, false, ◌&&◌, not, List, [], ◌∷◌, ◌++◌, length, take, drop, get_or, set, replicate, inl, inr, refl, sym, ap, ◌∙◌, subst, arith, append_assoc, length-append, zero-add, true≢false, Option, Some, None, is_some, IsTrue}
use Rattle.std.proofs.lemmas.Bool.{and_parts, and_from, cases_eq, ne_eqb, cases_Bool, eqb-true}
use Rattle.std.proofs.lemmas.Option.{cond_some}
use Rattle.std.proofs.lemmas.List.{take_more, drop_more, length-take-le, drop_at}
use Rattle.std.proofs.Math.Seq.{set-append_seam}
use Rattle.std.specs.List.{list_all}
use Rattle.std.specs.Option.{option_map}
use Rattle.board_base.specs.Board.{Places}
use Rattle.fen_text.specs.Ranks.{is_symbol, is_rank, rank_places, rank, runs_apart}
use Rattle.board_base.specs.Texts.{◌>>=◌}
use Rattle.fen_text.specs.Parts.{Free, IsPart}
use Rattle.fen_text.specs.Faults.{Begins, IsFault}
use Rattle.fen_text.specs.Fen.{ranks}
use Rattle.fen_text.specs.Placed.{IsPlaced}
use Rattle.fen_text.proofs.PartLemmas.{Clean, Opens, not_some, some_is, some_first, some_value, some_map, map_some, first_at, free_append, parted_next, parted_end, map_fault, part_fault, part_more, end_fault, more_fault}
use Rattle.fen_text.proofs.RankLemmas.{fill, rank_known, rank_unknown}

then_some : {A B : Type 0} (o : Option A) (p : Option B) → IsTrue (is_some (o >>= (λ x. p))) → IsTrue (is_some p)
then_some None p s = absurd (true≢false (sym s))
then_some (Some x) p s = s

never : {A B : Type 0} (o : Option A) (p : Option B) → p ≡ None → IsTrue (is_some (o >>= (λ x. p))) → ⊥
never o p e s = not_some p e (then_some o p s)

free_symbols : (c : ℕ) → is_symbol c ≡ false → (text : List ℕ) → list_all is_symbol text ≡ true → Free c text
free_symbols c bad [] all = refl
free_symbols c bad (b ∷ text) all =
    let h : (is_symbol b ≡ true) × (list_all is_symbol text ≡ true) = and_parts _ _ all in
    and_from _ _ (elim (cases_eq b c) [ inl e ↦ absurd (true≢false (sym h.0 ∙ ap is_symbol e ∙ bad)) | inr ne ↦ ap not (ne_eqb b c ne) ]) (free_symbols c bad text h.1)

pub clean_rank : (c : ℕ) → is_symbol c ≡ false → Clean c rank
clean_rank c bad text s = elim (cases_Bool (is_rank text)) [
  | inl e ↦ free_symbols c bad text ((and_parts (list_all is_symbol text) (runs_apart false text) ((and_parts (list_all is_symbol text && runs_apart false text) (0 + length (rank_places text) == 8) e).0)).0)
  | inr e ↦ absurd (not_some _ (rank_unknown text e) s)
]

pub slash_symbol : is_symbol 47 ≡ false
unfolding is_symbol
slash_symbol = refl

space_symbol : is_symbol 32 ≡ false
unfolding is_symbol
space_symbol = refl

pub open_rank : Begins rank []
open_rank = (replicate 8 75, rank_known (replicate 8 75) (fill 8 0 false refl))

pub open_ranks : (n : ℕ) → Begins (ranks n) []
unfolding ranks
open_ranks zero = open_rank
open_ranks (suc n) =
    let a : List ℕ = open_rank.0 in
    let y : Begins (ranks n) [] = open_ranks n in
    let v : (r : Places) × (rank a ≡ Some r) = some_value (rank a) open_rank.1 in
    let is = parted_next 47 rank (λ r. None) (λ r below. option_map (λ (places : Places). places ++ r) (ranks n below)) a y.0 (clean_rank 47 slash_symbol a open_rank.1)
    ∙ ap (λ (o : Option Places). o >>= (λ r. option_map (λ (places : Places). places ++ r) (ranks n y.0))) v.1 in
    (a ++ 47 ∷ y.0, some_is _ _ (sym is) (some_map _ (ranks n y.0) y.1))

pub clean_ranks : (n : ℕ) → Clean 32 (ranks n)
unfolding ranks
clean_ranks zero text s = clean_rank 32 space_symbol text s
clean_ranks (suc n) text s = elim (first_at 47 text) [
  | inl f ↦ absurd (never (rank text) None refl (some_is _ _ (parted_end 47 rank (λ r. None) (λ r below. option_map (λ (places : Places). places ++ r) (ranks n below)) text f) s))
  | inr q ↦
      let s2 = some_is _ _ (ap (ranks (suc n)) q.2 ∙ parted_next 47 rank (λ r. None) (λ r below. option_map (λ (places : Places). places ++ r) (ranks n below)) q.0 q.1 q.3) s in
      let first : IsTrue (is_some (rank q.0)) = some_first (rank q.0) (λ r. option_map (λ (places : Places). places ++ r) (ranks n q.1)) s2 in
      let v : (r : Places) × (rank q.0 ≡ Some r) = some_value (rank q.0) first in
      let second : IsTrue (is_some (ranks n q.1)) = map_some _ (ranks n q.1) (some_is _ _ (ap (λ (o : Option Places). o >>= (λ r. option_map (λ (places : Places). places ++ r) (ranks n q.1))) v.1) s2) in
      subst (Free 32) (sym q.2) (free_append 32 q.0 (47 ∷ q.1) (clean_rank 32 space_symbol q.0 first) (clean_ranks n q.1 second))
]

open_below : (n : ℕ) → Opens (λ (r : Places) below. option_map (λ (places : Places). places ++ r) (ranks n below))
open_below n r = let y : Begins (ranks n) [] = open_ranks n in (y.0, some_map _ (ranks n y.0) y.1)

rank_fault_0 : (n : ℕ) (text a : List ℕ) (at : ℕ) → IsPart 47 text a → IsFault rank a at → IsFault (ranks (suc n)) text at
unfolding ranks
rank_fault_0 n text a at is fault = part_fault 47 rank (λ r. None) (λ r below. option_map (λ (places : Places). places ++ r) (ranks n below)) text a at (clean_rank 47 slash_symbol) (open_below n) is fault

above : (k : ℕ) → (k ≡ 0 → ⊥) → suc (k - 1) ≡ k
above k ne = omega arith

-- a fault in the first rank
pub rank_fault : (k : ℕ) (text a : List ℕ) (n : ℕ) → (k ≡ 0 → ⊥) → IsPart 47 text a → IsFault rank a n → IsFault (ranks k) text n
rank_fault k text a n ne is fault = subst (λ (j : ℕ). IsFault (ranks j) text n) (above k ne) (rank_fault_0 (k - 1) text a n is fault)

short_0 : (n : ℕ) (text a : List ℕ) (r : Places) → Free 47 a → text ≡ a → rank a ≡ Some r → IsFault (ranks (suc n)) text (length a)
unfolding ranks
short_0 n text a r is e good = end_fault 47 rank (λ r. None) (λ r below. option_map (λ (places : Places). places ++ r) (ranks n below)) text a r (open_below n) is e good refl

-- ranks are missing
pub ranks_short : (k : ℕ) (text a : List ℕ) (r : Places) → (k ≡ 0 → ⊥) → Free 47 a → text ≡ a → rank a ≡ Some r → IsFault (ranks k) text (length a)
ranks_short k text a r ne is e good = subst (λ (j : ℕ). IsFault (ranks j) text (length a)) (above k ne) (short_0 (k - 1) text a r is e good)

below_0 : (n : ℕ) (text a rest : List ℕ) (r : Places) (at : ℕ) → Free 47 a → text ≡ a ++ 47 ∷ rest → rank a ≡ Some r → IsFault (ranks n) rest at → IsFault (ranks (suc n)) text (length a + 1 + at)
unfolding ranks
below_0 n text a rest r at is ne good fault = more_fault 47 rank (λ r. None) (λ r below. option_map (λ (places : Places). places ++ r) (ranks n below)) text a rest r at is ne good (map_fault (λ (places : Places). places ++ r) (ranks n) rest at fault)

-- a fault further down
pub below_fault : (k : ℕ) (text a rest : List ℕ) (r : Places) (at : ℕ) → (k ≡ 0 → ⊥) → Free 47 a → text ≡ a ++ 47 ∷ rest → rank a ≡ Some r → IsFault (ranks (k - 1)) rest at → IsFault (ranks k) text (length a + 1 + at)
below_fault k text a rest r at ne is more good fault = subst (λ (j : ℕ). IsFault (ranks j) text (length a + 1 + at)) (above k ne) (below_0 (k - 1) text a rest r at is more good fault)

said_0 : (n : ℕ) (text a rest : List ℕ) (r places : Places) → Free 47 a → text ≡ a ++ 47 ∷ rest → rank a ≡ Some r → ranks n rest ≡ Some places → ranks (suc n) text ≡ Some (places ++ r)
unfolding ranks
said_0 n text a rest r places is ne good said = part_more 47 rank (λ r. None) (λ r below. option_map (λ (places : Places). places ++ r) (ranks n below)) text a rest r is ne good ∙ ap (λ (o : Option Places). option_map (λ (places : Places). places ++ r) o) said

-- all ranks are good
pub ranks_said : (k : ℕ) (text a rest : List ℕ) (r places : Places) → (k ≡ 0 → ⊥) → Free 47 a → text ≡ a ++ 47 ∷ rest → rank a ≡ Some r → ranks (k - 1) rest ≡ Some places → ranks k text ≡ Some (places ++ r)
ranks_said k text a rest r places ne is more good said = subst (λ (j : ℕ). ranks j text ≡ Some (places ++ r)) (above k ne) (said_0 (k - 1) text a rest r places is more good said)

fault_0 : (text : List ℕ) (n : ℕ) → IsFault rank text n → IsFault (ranks 0) text n
unfolding ranks
fault_0 text n fault = fault

-- a fault in the last rank
pub last_fault : (k : ℕ) (text : List ℕ) (n : ℕ) → k ≡ 0 → IsFault rank text n → IsFault (ranks k) text n
last_fault k text n e fault = subst (λ (j : ℕ). IsFault (ranks j) text n) (sym e) (fault_0 text n fault)

said_last : (text : List ℕ) (r : Places) → rank text ≡ Some r → ranks 0 text ≡ Some r
unfolding ranks
said_last text r good = good

pub placed_last : (k : ℕ) (text : List ℕ) (r before now : Places) → k ≡ 0 → rank text ≡ Some r → now ≡ take (8 * k) before ++ r ++ drop (8 * k + 8) before → IsPlaced k text before now
placed_last k text r before now e good put =
    let none : 8 * k ≡ 0 = omega arith in
    record {
      places = r;
      said = ap (λ (j : ℕ). ranks j text) e ∙ said_last text r good;
      put = put ∙ ap (λ (j : ℕ). take j before ++ r ++ drop (8 * k + 8) before) none;
    }

pub placed_more : (k : ℕ) (text a rest : List ℕ) (r before mid now : Places) → (k ≡ 0 → ⊥) → k < 8 → length before ≡ 64 → Free 47 a → text ≡ a ++ 47 ∷ rest → rank a ≡ Some r → mid ≡ take (8 * k) before ++ r ++ drop (8 * k + 8) before → IsPlaced (k - 1) rest mid now → IsPlaced k text before now
placed_more k text a rest r before mid now ne low size is more good put placed =
    let sum : 8 * (k - 1) + 8 ≡ 8 * k = omega arith in
    let len : length (take (8 * k) before) ≡ 8 * k = length-take-le (8 * k) before (omega arith) in
    let left : drop (8 * k) mid ≡ r ++ drop (8 * k + 8) before = ap (drop (8 * k)) (put ∙ append_assoc (take (8 * k) before) r (drop (8 * k + 8) before)) ∙ drop_at (take (8 * k) before) (r ++ drop (8 * k + 8) before) (8 * k) len in
    record {
      places = placed.places ++ r;
      said = ranks_said k text a rest r placed.places ne is more good placed.said;
      put = placed.put ∙ ap (λ (j : ℕ). placed.places ++ drop j mid) sum ∙ ap (λ (l : Places). placed.places ++ l) left ∙ sym (append_assoc placed.places r (drop (8 * k + 8) before));
    }

pub rank_length : (text : List ℕ) (r : Places) → rank text ≡ Some r → length r ≡ 8
unfolding rank
rank_length text r good =
    let p = cond_some (is_rank text) (rank_places text) r good in
    let h = and_parts (list_all is_symbol text && runs_apart false text) (0 + length (rank_places text) == 8) p.0 in
    ap length (sym p.1) ∙ sym (zero-add _) ∙ eqb-true _ _ h.1

-- a board with part of a rank
pub record IsFilled (before now line : Places) (rank file : ℕ) : Type 0 where
  pub so_far : now ≡ take (8 * rank) before ++ take file line ++ drop (8 * rank + file) before

pub filled_more : (before now line : Places) (rank file : ℕ) → length before ≡ 64 → length line ≡ 8 → rank < 8 → file < 8 → IsFilled before now line rank file → IsFilled before (set now (8 * rank + file) (get_or line file None)) line rank (file + 1)
filled_more before now line rank file size eight low few so_far =
    let here : 8 * rank + file < length before = omega arith in
    let short : file < length line = omega arith in
    let a : Places = take (8 * rank) before ++ take file line in
    let len_a : length a ≡ 8 * rank + file = omega (arith, length-append (take (8 * rank) before) (take file line), length-take-le (8 * rank) before (omega arith), length-take-le file line (omega arith)) in
    let split : now ≡ a ++ get_or before (8 * rank + file) None ∷ drop (8 * rank + file + 1) before = so_far.so_far ∙ ap (λ (l : Places). a ++ l) (drop_more before (8 * rank + file) None here) in
    let put : set now (8 * rank + file) (get_or line file None) ≡ a ++ get_or line file None ∷ drop (8 * rank + file + 1) before = ap (λ (l : Places). set l (8 * rank + file) (get_or line file None)) split ∙ ap (λ (k : ℕ). set (a ++ get_or before (8 * rank + file) None ∷ drop (8 * rank + file + 1) before) k (get_or line file None)) (sym len_a) ∙ set-append_seam a _ _ (get_or line file None) in
    let more : take (file + 1) line ≡ take file line ++ get_or line file None ∷ [] = take_more line file None short in
    let sum : 8 * rank + file + 1 ≡ 8 * rank + (file + 1) = omega arith in
    record {
      so_far = put
          ∙ sym (append_assoc a (get_or line file None ∷ []) (drop (8 * rank + file + 1) before))
          ∙ ap (λ (l : Places). l ++ drop (8 * rank + file + 1) before) (append_assoc (take (8 * rank) before) (take file line) (get_or line file None ∷ []) ∙ ap (λ (l : Places). take (8 * rank) before ++ l) (sym more))
          ∙ ap (λ (k : ℕ). take (8 * rank) before ++ take (file + 1) line ++ drop k before) sum;
    }
