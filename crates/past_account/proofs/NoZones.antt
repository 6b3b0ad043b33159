-- Where no zones are known, an officer's room is his region.
use Rattle.std.proofs.Common.{◌≡◌, ℕ, ◌<◌, Bool, true, List, [], refl}
use Rattle.std.proofs.lemmas.Bool.{and_parts, and_from}
use Rattle.std.specs.Prelude.{Option, Some, None}
use Rattle.general_lemmas.proofs.Truth.{same_truth}
use Rattle.board_base.specs.Board.{is_in}
use Rattle.board_base.specs.declared.men.Man.{Man}
use Rattle.cage_rules.specs.Regions.{may_roam, region_from}
use Rattle.cage_rules.proofs.Regions.{closed-tells, region-goes, region-home, region-least}
use Rattle.past_account.specs.Zones.{reached_from, roams_past, room_past}
use Rattle.past_account.proofs.Reached.{reached-goes, reached-home, reached-least}

roams-told : (set : List Bool) (m : Option Man) (t u : ℕ) → roams_past set [] m t u ≡ true → may_roam set m t u ≡ true
roams-told set None t u h = h
roams-told set (Some m) t u h = (and_parts (may_roam set (Some m) t u) true h).0

roams-tells : (set : List Bool) (m : Option Man) (t u : ℕ) → may_roam set m t u ≡ true → roams_past set [] m t u ≡ true
roams-tells set None t u h = h
roams-tells set (Some m) t u h = and_from (may_roam set (Some m) t u) true h refl

pub room-region : (set : List Bool) (m : Option Man) (h s : ℕ) → h < 64 → room_past set [] m h s ≡ is_in (region_from set m h) s
room-region set m h s inside = same_truth (room_past set [] m h s) (is_in (region_from set m h) s)
    (λ there. reached-least (roams_past set [] m) h (region_from set m h) inside (region-home set m h inside) (λ t u ti ui member goes. region-goes set m h t u ui member (roams-told set m t u goes)) s there)
    (λ there. region-least set m h (reached_from (roams_past set [] m) h) inside (reached-home (roams_past set [] m) h inside) (closed-tells set m (reached_from (roams_past set [] m) h) (λ t u ti ui member goes. reached-goes (roams_past set [] m) h t u ui member (roams-tells set m t u goes))) s there)
