-- Room on a file, test by test.
use Rattle.std.proofs.Common.{◌≡◌, ℕ, Bool, true, false, ◌&&◌, ◌||◌, not, refl, ap, ◌∙◌}
use Rattle.std.specs.Prelude.{nat_lt}
use Rattle.figures.specs.Figures.{Figure}
use Rattle.sketch_sets.specs.Files.{gives_room, is_above, is_below, is_beside}

pub room-told : (f : Figure) (e : ℕ) (g : Figure) → gives_room f e g ≡ (not (is_beside e g) || ((not (nat_lt g.place f.place) || is_below e g) && (not (nat_lt f.place g.place) || is_above e g)))
unfolding gives_room is_beside is_below is_above
room-told f e g = refl

pub room-off : (f : Figure) (e : ℕ) (g : Figure) → is_beside e g ≡ false → gives_room f e g ≡ true
room-off f e g off = room-told f e g ∙ ap (λ (b : Bool). not b || ((not (nat_lt g.place f.place) || is_below e g) && (not (nat_lt f.place g.place) || is_above e g))) off

pub room-on : (f : Figure) (e : ℕ) (g : Figure) → is_beside e g ≡ true → gives_room f e g ≡ ((not (nat_lt g.place f.place) || is_below e g) && (not (nat_lt f.place g.place) || is_above e g))
room-on f e g on = room-told f e g ∙ ap (λ (b : Bool). not b || ((not (nat_lt g.place f.place) || is_below e g) && (not (nat_lt f.place g.place) || is_above e g))) on
