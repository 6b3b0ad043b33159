-- From one field to the next.
use Rattle.std.proofs.Common.{◌≡◌, ℕ, ◌+◌, ◌≤◌, ◌==◌, Bool, cond, List, [], ◌∷◌, ◌++◌, length, take, refl, sym, ap, ◌∙◌, subst, arith, append_assoc, length-append, zero-add, Option, Some, None}
use Rattle.std.proofs.lemmas.Bool.{and_parts, not-true}
use Rattle.std.proofs.lemmas.List.{take-append-le}
use Rattle.std.proofs.Math.Seq.{take-append-add}
use Rattle.std.proofs.lemmas.List.Sums.{sum_by-append, sum_by-cons}
use Rattle.std.specs.Option.{option_map}
use Rattle.board_base.specs.Board.{Places}
use Rattle.board_base.specs.Rights.{Rights}
use Rattle.board_base.specs.declared.men.Colour.{Colour}
use Rattle.query_base.specs.Asked.{Asked}
use Rattle.fen_text.specs.declared.faults.FenFault.{FenFault}
use Rattle.fen_text.specs.Parts.{parted, Free, IsPart}
use Rattle.fen_text.specs.Faults.{IsFault}
use Rattle.fen_text.specs.FenFaults.{IsFenFault, spaces}
use Rattle.fen_text.specs.Fen.{asked, number, rights, placement, Position, from_numbers, from_en_passant, from_rights, from_turn}
use Rattle.fen_text.proofs.PartLemmas.{Clean, Opens, free_take, begun_free, map_fault, part_fault, end_fault, more_fault}
use Rattle.fen_text.proofs.PlacementLemmas.{clean_ranks}

no_spaces : (text : List ℕ) → Free 32 text → spaces text ≡ 0
no_spaces [] f = refl
no_spaces (b ∷ text) f =
    let fs = and_parts _ _ f in
    sum_by-cons (λ (c : ℕ). cond (c == 32) 1 0) b text ∙ ap (λ (t : Bool). cond t 1 0 + spaces text) (not-true _ fs.0) ∙ ap (λ (n : ℕ). 0 + n) (no_spaces text fs.1) ∙ zero-add 0

in_part : (text a : List ℕ) (n : ℕ) → IsPart 32 text a → n ≤ length a → spaces (take n text) ≡ 0
in_part text a n is few = ap (λ (t : List ℕ). spaces (take n t)) is.whole ∙ ap spaces (take-append-le n a is.tail few) ∙ no_spaces (take n a) (free_take 32 n a is.free)

fen_here : {V : Type 0} (decode : List ℕ → Option V) (text a : List ℕ) (n : ℕ) (f : FenFault) → IsPart 32 text a → n ≤ length a → f.field ≡ 1 → f.at ≡ n → IsFault decode text n → IsFenFault decode text f
fen_here decode text a n f is few field place fault = record {
  place = subst (IsFault decode text) (sym place) fault;
  field = field ∙ ap (λ (k : ℕ). k + 1) (sym (ap (λ (m : ℕ). spaces (take m text)) place ∙ in_part text a n is few));
}

-- a fault in the first field
pub stage_part : {A B : Type 0} (part : List ℕ → Option A) (last : A → Option B) (more : A → List ℕ → Option B) (text a : List ℕ) (n : ℕ) (f : FenFault) → Clean 32 part → Opens more → IsPart 32 text a → IsFault part a n → f.field ≡ 1 → f.at ≡ n → IsFenFault (parted 32 part last more) text f
stage_part part last more text a n f clean opens is fault field place = fen_here (parted 32 part last more) text a n f is fault.inside field place (part_fault 32 part last more text a n clean opens is fault)

-- a field is missing
pub stage_end : {A B : Type 0} (part : List ℕ → Option A) (last : A → Option B) (more : A → List ℕ → Option B) (text a : List ℕ) (x : A) (f : FenFault) → Opens more → IsPart 32 text a → text ≡ a → part a ≡ Some x → last x ≡ None → f.field ≡ 1 → f.at ≡ length a → IsFenFault (parted 32 part last more) text f
stage_end part last more text a x f opens is e good ends field place = fen_here (parted 32 part last more) text a (length a) f is (omega arith) field place (end_fault 32 part last more text a x opens is.free e good ends)

-- a fault in a later field
pub stage_more : {A B : Type 0} (part : List ℕ → Option A) (last : A → Option B) (more : A → List ℕ → Option B) (text a r : List ℕ) (x : A) (g f : FenFault) → Free 32 a → text ≡ a ++ 32 ∷ r → part a ≡ Some x → IsFenFault (more x) r g → f.field ≡ g.field + 1 → f.at ≡ length a + 1 + g.at → IsFenFault (parted 32 part last more) text f
stage_more part last more text a r x g f free e good fault field place =
    let cut : take (length a + 1 + g.at) text ≡ a ++ 32 ∷ take g.at r = ap (take (length a + 1 + g.at)) (e ∙ sym (append_assoc a (32 ∷ []) r)) ∙ ap (λ (k : ℕ). take (k + g.at) ((a ++ 32 ∷ []) ++ r)) (sym (length-append a (32 ∷ []))) ∙ take-append-add (a ++ 32 ∷ []) r g.at ∙ append_assoc a (32 ∷ []) (take g.at r) in
    let count : spaces (take f.at text) ≡ 1 + spaces (take g.at r) = ap (λ (k : ℕ). spaces (take k text)) place ∙ ap spaces cut ∙ sum_by-append (λ (b : ℕ). cond (b == 32) 1 0) a (32 ∷ take g.at r) ∙ ap (λ (k : ℕ). k + spaces (32 ∷ take g.at r)) (no_spaces a free) ∙ zero-add _ ∙ sum_by-cons (λ (c : ℕ). cond (c == 32) 1 0) 32 (take g.at r) in
    let before : g.field ≡ spaces (take g.at r) + 1 = fault.field in
    record {
      place = subst (IsFault (parted 32 part last more) text) (sym place) (more_fault 32 part last more text a r x g.at free e good fault.place);
      field = omega arith;
    }

-- what may follow each field
pub opens_number : (q : Asked) → Opens {B = Position} (λ (h : ℕ) last. option_map (λ (f : ℕ). (q, Some (h, f))) (number last))
unfolding number
opens_number q h = (48 ∷ [], refl)

pub opens_numbers : (b : Places) (t : Colour) (r : Rights) → Opens (λ e. from_numbers (asked b t r e))
unfolding from_numbers parted number
opens_numbers b t r e = (48 ∷ 32 ∷ 48 ∷ [], refl)

pub opens_en_passant : (b : Places) (t : Colour) → Opens (from_en_passant b t)
unfolding from_en_passant parted
opens_en_passant b t r = (45 ∷ [], refl)

pub opens_rights : (b : Places) → Opens (from_rights b)
unfolding from_rights from_en_passant parted rights
opens_rights b t = (45 ∷ 32 ∷ 45 ∷ [], refl)

pub opens_turn : Opens from_turn
unfolding from_turn from_rights from_en_passant parted rights
opens_turn b = (119 ∷ 32 ∷ 45 ∷ 32 ∷ 45 ∷ [], refl)

pub clean_placement : Clean 32 placement
unfolding placement
clean_placement = clean_ranks 7

-- a fault in the last field
pub stage_last : {A B : Type 0} (value : A → B) (decode : List ℕ → Option A) (r : List ℕ) (n : ℕ) (g : FenFault) → Clean 32 decode → IsFault decode r n → g.field ≡ 1 → g.at ≡ n → IsFenFault (λ t. option_map value (decode t)) r g
stage_last value decode r n g clean fault field place = record {
  place = subst (IsFault (λ t. option_map value (decode t)) r) (sym place) (map_fault value decode r n fault);
  field = field ∙ ap (λ (k : ℕ). k + 1) (sym (ap (λ (m : ℕ). spaces (take m r)) place ∙ no_spaces (take n r) (begun_free 32 decode (take n r) clean fault.begins)));
}
