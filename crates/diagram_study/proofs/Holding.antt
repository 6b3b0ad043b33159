-- What the ledger says only if a castling is held, castling by castling.
use Rattle.std.proofs.Common.{◌≡◌, ℕ, ◌+◌, ◌<◌, ◌≤◌, List, [], ◌∷◌, ◌++◌, length, get_or, map, take, ap, sym, subst, ◌∙◌, append-nil}
use Rattle.std.specs.Prelude.{Option, None, Some}
use Rattle.std.specs.List.{All, flat_map}
use Rattle.std.proofs.lemmas.List.{flat_map_more, map-append, take_all}
use Rattle.std.proofs.lemmas.List.Elements.{All-nil, All-push, All-same}
use Rattle.general_lemmas.proofs.Splits.{up_to}
use Rattle.board_base.specs.declared.castles.Castle.{Castle}
use Rattle.query_base.specs.Asked.{Asked}
use Rattle.ledger_told.specs.Line.{Line}
use Rattle.diagram_study.specs.Held.{AreHeldFound, IsHeldFound, one_castling, unsettled_castling}
use Rattle.diagram_study.specs.HeldSteps.{AddsHeld}
use Rattle.diagram_study.specs.declared.held.HeldFound.{HeldFound}
use Rattle.diagram_study.specs.declared.rights.RightFound.{RightFound}

-- the castlings of rights that aren't settled
abbrev castlings-of : List RightFound → List Castle
castlings-of fs = flat_map (λ f. one_castling (unsettled_castling f)) fs

-- of no right nothing is found
pub held-none : (q : Asked) (known : List Line) (held : List HeldFound) → held ≡ [] → AreHeldFound q known [] held
held-none q known held none = record {
  castlings = ap (λ (l : List HeldFound). map (λ h. h.castle) l) none;
  each = All-same (IsHeldFound q known) held [] none (All-nil (IsHeldFound q known));
}

castlings-last : (x : Option Castle) (q : Asked) (known : List Line) (old new : List HeldFound) → AddsHeld q known x old new → map (λ h. h.castle) new ≡ map (λ h. h.castle) old ++ one_castling x
castlings-last None q known old new same = ap (λ (l : List HeldFound). map (λ h. h.castle) l) same ∙ sym (append-nil (map (λ h. h.castle) old))
castlings-last (Some x) q known old new (h, is, found, longer) =
    ap (λ (l : List HeldFound). map (λ k. k.castle) l) longer ∙ map-append (λ (k : HeldFound). k.castle) old (h ∷ []) ∙ ap (λ (c : Castle). map (λ k. k.castle) old ++ c ∷ []) is

each-last : (x : Option Castle) (q : Asked) (known : List Line) (old new : List HeldFound) → AddsHeld q known x old new → All (IsHeldFound q known) old → All (IsHeldFound q known) new
each-last None q known old new same all = All-same (IsHeldFound q known) new old same all
each-last (Some x) q known old new (h, is, found, longer) all = All-same (IsHeldFound q known) new _ longer (All-push (IsHeldFound q known) old h all found)

-- of one right more
pub held-more : (q : Asked) (known : List Line) (rights : List RightFound) (i : ℕ) (f : RightFound) (x : Option Castle) (old new : List HeldFound) → i < length rights → f ≡ get_or rights i f → x ≡ unsettled_castling f → AreHeldFound q known (take i rights) old → AddsHeld q known x old new → AreHeldFound q known (take (i + 1) rights) new
held-more q known rights i f x old new inside here is so_far adds = record {
  castlings =
      castlings-last x q known old new adds
      ∙ ap (λ (o : Option Castle). map (λ h. h.castle) old ++ one_castling o) is
      ∙ ap (λ (l : List Castle). l ++ one_castling (unsettled_castling f)) so_far.castlings
      ∙ flat_map_more (λ (g : RightFound). one_castling (unsettled_castling g)) [] (take i rights) f
      ∙ ap castlings-of (sym (up_to rights i f inside here));
  each = each-last x q known old new adds so_far.each;
}

-- of all of them
pub held-all : (q : Asked) (known : List Line) (rights : List RightFound) (i : ℕ) (held : List HeldFound) → length rights ≤ i → AreHeldFound q known (take i rights) held → AreHeldFound q known rights held
held-all q known rights i held past found = subst (λ (l : List RightFound). AreHeldFound q known l held) (take_all i rights past) found
