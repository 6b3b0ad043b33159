-- What is known of a side if no zone bars a way.
use Rattle.std.proofs.Common.{◌≡◌, ℕ, ◌+◌, ◌<◌, inl, inr, Bool, true, false, ◌||◌, List, [], length, slice_index, slice_index_or, refl, ap, sym, ◌∙◌, arith}
use Rattle.std.proofs.lemmas.Bool.{both_ways, cases_lt}
use Rattle.std.proofs.lemmas.List.{get_or_past}
use Rattle.std.specs.Prelude.{Option, Some, IsTrue}
use Rattle.board_base.specs.Board.{array_of, at, is_in, man, same_kind}
use Rattle.board_base.specs.Legal.{is_officer}
use Rattle.board_base.specs.declared.men.Colour.{Colour}
use Rattle.board_base.specs.declared.men.Kind.{Kind}
use Rattle.board_base.specs.declared.men.Kind.TheVariants.{Pawn, Knight, Bishop, Rook, Queen, King}
use Rattle.board_base.specs.declared.men.Man.{Man}
use Rattle.cage_rules.specs.Regions.{is_officer_home, region, region_from}
use Rattle.cage_rules.proofs.Regions.{region-home}
use Rattle.capture_prices.specs.Prices.{PriceList}
use Rattle.balance_rule.specs.Costs.{most_earned}
use Rattle.balance_rule.specs.Grounds.{ArePromoted, IsGround as IsOpenGround, comes_promoted as comes_openly}
use Rattle.balance_rule.specs.LeastWays.{seen_by}
use Rattle.balance_rule.specs.declared.grounds.Ground.{Ground as OpenGround}
use Rattle.balance_rule.proofs.Begun.{begins-on}
use Rattle.balance_rule.proofs.Earned.{greatest-same}
use Rattle.balance_rule.proofs.Filled.{any-default}
use Rattle.balance_rule.proofs.Seen.{seen-inside}
use Rattle.sketch_grounds.specs.Zones.{Room, room_past}
use Rattle.sketch_grounds.proofs.NoZones.{room-region}
use Rattle.sketch_account.specs.Grounds.{AreRooms, IsGround, comes_promoted}
use Rattle.sketch_account.proofs.Plain.{begun-is}

no-king : (k : Kind) → is_officer k ≡ true → same_kind k King ≡ false
no-king Pawn h = refl
no-king Knight h = refl
no-king Bishop h = refl
no-king Rook h = refl
no-king Queen h = refl
no-king King h = absurd (both_ways false refl h)

-- a set that has a square is one of the list
has-place : (sets : List (List Bool)) (f t : ℕ) (none : List Bool) → is_in (slice_index_or sets f []) t ≡ true → slice_index_or sets f none ≡ slice_index_or sets f []
has-place sets f t none member = elim (cases_lt f (length sets)) [
  | inl low ↦ any-default sets f none [] low
  | inr past ↦ absurd (both_ways (is_in [] t) refl (ap (λ (l : List Bool). is_in l t) (sym (get_or_past sets f [] past)) ∙ member))
]

module _ (o : List Bool) (p : PriceList) (b : OpenGround) (base : IsOpenGround o p b) where
  abbrev c : Colour
  c = b.side

  abbrev R : Room
  R = room_past b.frozen []

  -- a room that is a region
  one-room : (sets : List (List Bool)) (f h s : ℕ) (none : List Bool) (m : Option Man) → h < 64 → slice_index_or sets f [] ≡ region_from b.frozen m h → is_in (slice_index_or sets f none) s ≡ R m h s
  one-room sets f h s none m inside is =
      let has : slice_index_or sets f none ≡ slice_index_or sets f [] = has-place sets f h none (ap (λ (l : List Bool). is_in l h) is ∙ region-home b.frozen m h inside) in
      ap (λ (l : List Bool). is_in l s) (has ∙ is) ∙ sym (room-region b.frozen m h s inside)

  -- the last rank
  end-inside : (f : ℕ) → f < 8 → seen_by c (56 + f) < 64
  end-inside f low = seen-inside c (56 + f) (omega arith)

  promoted-rooms : (k : Kind) (sets : List (List Bool)) → ArePromoted b.frozen c k sets → AreRooms R c k sets
  promoted-rooms k sets are f s none low inside = one-room sets f (seen_by c (56 + f)) s none (man c k) (end-inside f low) (are f low)

  same-promoted : (t s : ℕ) → t < 64 → comes_openly b.frozen c t s ≡ comes_promoted R c t s
  same-promoted t s inside =
      let one = λ (k : Kind). sym (room-region b.frozen (man c k) t s inside) in
      ap (λ (x : Bool). x || is_in (region_from b.frozen (man c Bishop) t) s || is_in (region_from b.frozen (man c Rook) t) s || is_in (region_from b.frozen (man c Queen) t) s) (one Knight)
      ∙ ap (λ (x : Bool). R (man c Knight) t s || x || is_in (region_from b.frozen (man c Rook) t) s || is_in (region_from b.frozen (man c Queen) t) s) (one Bishop)
      ∙ ap (λ (x : Bool). R (man c Knight) t s || R (man c Bishop) t s || x || is_in (region_from b.frozen (man c Queen) t) s) (one Rook)
      ∙ ap (λ (x : Bool). R (man c Knight) t s || R (man c Bishop) t s || R (man c Rook) t s || x) (one Queen)

  -- the first rank
  module _ (f : ℕ) (m : Man) (low : f < 8) (there : at (array_of o) (seen_by c f) ≡ Some m) (officer : is_officer m.kind ≡ true) where
    home : IsTrue (is_officer_home (seen_by c f))
    home = (begins-on o c f m (omega arith) there).officer low (no-king m.kind officer)

    begun : region b.frozen (seen_by c f) ≡ region_from b.frozen (Some m) (seen_by c f)
    begun = ap (λ (x : Option Man). region_from b.frozen x (seen_by c f)) (begun-is o (seen_by c f) m there)

    inside : seen_by c f < 64
    inside = seen-inside c f (omega arith)

    home-room : (s : ℕ) (none : List Bool) → is_in (slice_index_or b.regions f none) s ≡ R (Some m) (seen_by c f) s
    home-room s none = one-room b.regions f (seen_by c f) s none (Some m) inside (base.regions f low home ∙ begun)

    home-most : slice_index b.most_at_home f ≡ most_earned p b.frozen c (R (Some m) (seen_by c f))
    home-most =
        base.most_at_home f low home
        ∙ greatest-same (is_in (region b.frozen (seen_by c f))) (R (Some m) (seen_by c f)) _ (λ s on. ap (λ (l : List Bool). is_in l s) begun ∙ sym (room-region b.frozen (Some m) (seen_by c f) s inside))

  pub opened : IsGround o p R (record { base = b; rooms = b.regions; knights = b.knights; bishops = b.bishops; rooks = b.rooks; queens = b.queens; promoted = b.promoted; most_at_home = b.most_at_home; most_promoted = b.most_promoted })
  opened = record {
    base = base;
    rooms = λ f s none m low inside there officer. home-room f m low there officer s none;
    knights = promoted-rooms Knight b.knights base.knights;
    bishops = promoted-rooms Bishop b.bishops base.bishops;
    rooks = promoted-rooms Rook b.rooks base.rooks;
    queens = promoted-rooms Queen b.queens base.queens;
    promoted = λ f s low inside. base.promoted f s low inside ∙ same-promoted (seen_by c (56 + f)) s (end-inside f low);
    most_at_home = λ f m low there officer. home-most f m low there officer;
    most_promoted = λ f low.
        base.most_promoted f low
        ∙ greatest-same (comes_openly b.frozen c (seen_by c (56 + f))) (comes_promoted R c (seen_by c (56 + f))) _ (λ s inside. same-promoted (seen_by c (56 + f)) s (end-inside f low));
  }
