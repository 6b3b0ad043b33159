-- How the listed steps of a sketch are written.
use Rattle.std.specs.Prelude.{ℕ, Bool, true, false}
use Rattle.play_rules.specs.Laws.{is_end}
use Rattle.sketch_node.specs.Listed.{Listed}
use Rattle.sketch_node.specs.Victim.{Victim as WhoFell}
use Rattle.sketch_node.specs.Victim.TheVariants.{Nobody, TakenPawn, TakenBishop, TakenOther, PassedPawn}
use Rattle.sketch_text.specs.declared.labels.Label.{Label}
use Rattle.sketch_text.specs.declared.labels.Label.TheVariants.{Step}
use Rattle.sketch_text.specs.declared.labels.Taken.TheVariants as taken
use Rattle.sketch_text.specs.declared.labels.Victim.TheVariants as victim
use Rattle.sketch_text.specs.declared.labels.Way.{Way}
use Rattle.sketch_text.specs.declared.labels.Way.TheVariants.{Straight, Capture, Promotion, CapturePromotion}

-- The way of a step, which was a promotion or not, with its victim, and with how many pawns of the old file were above the one who captured.
-- No pawn falls where one is promoted.
abbrev pub way_for : Bool → WhoFell → ℕ → Way
way_for true Nobody n = Promotion
way_for false Nobody n = Straight
way_for promoted TakenPawn n = Capture victim.Pawn n
way_for true TakenBishop n = CapturePromotion taken.Bishop
way_for false TakenBishop n = Capture victim.Bishop n
way_for true TakenOther n = CapturePromotion taken.Officer
way_for false TakenOther n = Capture victim.Officer n
way_for promoted PassedPawn n = Capture victim.EnPassant n

-- the label of a listed step: a pawn that comes to rank 1 or 8 is promoted
abbrev pub label_for : Listed → Label
label_for y = Step (record { from = y.from; to = y.to; way = way_for (is_end y.to) y.victim y.above })
