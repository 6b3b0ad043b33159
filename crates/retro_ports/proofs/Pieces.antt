-- A text that is written piece after piece.
use Rattle.std.proofs.Common.{◌≡◌, ℕ, List, [], ◌++◌, length, take, drop, refl, sym, ap, subst, ◌∙◌, append_assoc, append-nil, take-append-drop, arith, length-append}
use Rattle.std.proofs.lemmas.List.{take_at}
use Rattle.std.proofs.lemmas.Result.{on_err_weaker, on_ok_weaker}
use Rattle.std.proofs.KnownBytes.{Appends-nil, Appends-trans}
use Rattle.std.specs.Prelude.{Option, Result, Ok, Err, OnOk, OnErr}
use Rattle.std.specs.Io.KnownBytes.{Appends}
use Rattle.retro_ports.specs.Ends.{TakesPrefix}

-- a front of the text was written with no fault, and this rest of it is still to come
pub record StillToCome (before now : Option (List ℕ)) (faults_before faults_now : ℕ) (text rest : List ℕ) : Type 0 where
  pub front : List ℕ
  pub parts : text ≡ front ++ rest
  pub taken : Appends before now front
  pub no_fault : faults_now ≡ faults_before

pub nothing_written : (a : Option (List ℕ)) (f : ℕ) (text : List ℕ) → StillToCome a a f f text text
nothing_written a f text = record { front = []; parts = refl; taken = Appends-nil a; no_fault = refl }

pub piece_written : (a b c : Option (List ℕ)) (f g h : ℕ) (text piece rest : List ℕ) → StillToCome a b f g text (piece ++ rest) → Appends b c piece → h ≡ g → StillToCome a c f h text rest
piece_written a b c f g h text piece rest so_far more same = record {
  front = so_far.front ++ piece;
  parts = so_far.parts ∙ sym (append_assoc so_far.front piece rest);
  taken = Appends-trans a b c so_far.front piece so_far.taken more;
  no_fault = same ∙ so_far.no_fault;
}

-- a front of the text is a prefix of it
taken_front : (a c : Option (List ℕ)) (text front rest : List ℕ) → text ≡ front ++ rest → Appends a c front → TakesPrefix a c text
taken_front a c text front rest parts taken = (
  length front,
  omega (arith, ap length parts, length-append front rest),
  subst (Appends a c) (sym (ap (take (length front)) parts ∙ take_at front rest (length front) refl)) taken,
)

-- where a piece is cut short, so is the text
cut_short : (a b c : Option (List ℕ)) (f g : ℕ) (text piece rest : List ℕ) → StillToCome a b f g text (piece ++ rest) → TakesPrefix b c piece → TakesPrefix a c text
cut_short a b c f g text piece rest so_far cut =
    let front = take cut.0 piece in
    let left = drop cut.0 piece in
    taken_front a c text (so_far.front ++ front) (left ++ rest)
    (so_far.parts ∙ ap (λ (l : List ℕ). so_far.front ++ (l ++ rest)) (sym (take-append-drop cut.0 piece)) ∙ ap (λ (l : List ℕ). so_far.front ++ l) (append_assoc front left rest) ∙ sym (append_assoc so_far.front front (left ++ rest)))
    (Appends-trans a b c so_far.front front so_far.taken cut.2)

pub piece_cut : {T E : Type 0} (a b c : Option (List ℕ)) (f g : ℕ) (text piece rest : List ℕ) (result : Result T E) → StillToCome a b f g text (piece ++ rest) → TakesPrefix b c piece → OnErr result (TakesPrefix a c text)
piece_cut a b c f g text piece rest (Ok x) so_far cut = tt
piece_cut a b c f g text piece rest (Err e) so_far cut = cut_short a b c f g text piece rest so_far cut

-- the last piece, whatever comes of it

last_written : (a b c : Option (List ℕ)) (f g : ℕ) (text piece : List ℕ) → StillToCome a b f g text piece → Appends b c piece → Appends a c text
last_written a b c f g text piece so_far more = subst (Appends a c) (sym so_far.parts) (Appends-trans a b c so_far.front piece so_far.taken more)

pub last_ok : {T E : Type 0} (a b c : Option (List ℕ)) (f g : ℕ) (text piece : List ℕ) (result : Result T E) → StillToCome a b f g text piece → OnOk result (Appends b c piece) → OnOk result (Appends a c text)
last_ok a b c f g text piece result so_far = on_ok_weaker result (last_written a b c f g text piece so_far)

pub last_failed : {T E : Type 0} (a b c : Option (List ℕ)) (f g : ℕ) (text piece : List ℕ) (result : Result T E) → StillToCome a b f g text piece → OnErr result (TakesPrefix b c piece) → OnErr result (TakesPrefix a c text)
last_failed a b c f g text piece result so_far =
    on_err_weaker result (cut_short a b c f g text piece [] (subst (StillToCome a b f g text) (sym (append-nil piece)) so_far))

-- where no piece is left, all of it was written
pub all_written : (a b : Option (List ℕ)) (f g : ℕ) (text : List ℕ) → StillToCome a b f g text [] → Appends a b text
all_written a b f g text so_far = last_written a b b f g text [] so_far (Appends-nil b)
