-- What a line says fits its depth.
use Rattle.std.proofs.Common.{◌≡◌, ℕ, ◌||◌, ◌==◌, Bool, true, false, cond, ◌&&◌, List, drop, arith, refl, nat_eq, nat_lt, nat_le}
use Rattle.std.specs.Prelude.{Option, Some, None, IfSome, codes}
use Rattle.std.specs.List.{starts_with}
use Rattle.std.specs.Option.{option_map}
use Rattle.std.proofs.lemmas.Bool.{and_parts, leb-true}
use Rattle.std.proofs.lemmas.Bool.Decides.{nat_tests}
use Rattle.board_base.specs.Texts.{unmove_from}
use Rattle.sketch_text.specs.Heads.{Head, are_files, head_line}
use Rattle.sketch_text.proofs.HeadTexts.{head_read}
use Rattle.board_base.specs.declared.unmoves.Unmove.{Unmove}
use Rattle.cert_text.specs.declared.node_lines.BodyLine.{BodyLine}
use Rattle.cert_text.specs.Lines.{said}
use Rattle.cert_text.specs.NodeLines.{kid_body, root_body, body_at, back_at, expand_at}
use Rattle.cert_text.specs.Reading.{HasRoom}
use Rattle.cert_text.specs.declared.node_lines.BodyLine.TheVariants.{Back, Expand, Sketch}
use Rattle.cert_text.proofs.Gives.{Gives, either, after, given, mapped, always, nothing, in_parts}

back_fits : (depth k : ℕ) → Gives (back_at depth k) (HasRoom depth)
back_fits depth k = either (nat_le 1 k && nat_le k depth) (Some (Back k)) None (record { holds = tt }) nothing

expand_fits_at : (depth n : ℕ) (b : Bool) → b ≡ ((n == 0) || nat_lt depth 255) → Gives (cond b (Some (Expand n)) None) (HasRoom depth)
expand_fits_at depth n true e = record { holds = λ some. grind (arith, nat_tests) }
expand_fits_at depth n false e = nothing

expand_fits : (depth n : ℕ) → Gives (expand_at depth n) (HasRoom depth)
expand_fits depth n = expand_fits_at depth n ((n == 0) || nat_lt depth 255) refl

head_fits_at : (depth : ℕ) (text : List ℕ) (o : Option Head) → head_line text ≡ o → Gives (option_map (λ h. Sketch h) o) (HasRoom depth)
head_fits_at depth text None e = record { holds = tt }
head_fits_at depth text (Some h) e =
    let is = head_read text h e in
    record { holds = leb-true h.prices 64 (and_parts (nat_le h.prices 64) (are_files 0 h.files) is.known).0 }

head_fits : (depth : ℕ) (text : List ℕ) → Gives (option_map (λ h. Sketch h) (head_line text)) (HasRoom depth)
head_fits depth text = head_fits_at depth text (head_line text) refl

body_fits : (depth : ℕ) (text : List ℕ) → Gives (body_at depth text) (HasRoom depth)
unfolding body_at
body_fits depth text = search (either, after, mapped, always, back_fits, expand_fits, head_fits, nothing)

kid_gives : (depth : ℕ) (text : List ℕ) → Gives (kid_body depth text) (λ kid. HasRoom depth kid.1)
unfolding kid_body
kid_gives depth text =
    in_parts 32 unmove_from (λ u. None) (λ u rest. option_map (λ b. (u, b)) (body_at depth rest)) text (λ u. nothing) (λ u rest. mapped (λ b. (u, b)) (body_at depth rest) (body_fits depth rest))

pub kid_fits : (depth : ℕ) (line : List ℕ) → IfSome (said (kid_body depth) line) (λ kid. HasRoom depth kid.1)
unfolding said
kid_fits depth line = (after (kid_body depth) _ (kid_gives depth)).holds

pub kid_room : (depth : ℕ) (line : List ℕ) (kid : Unmove × BodyLine) → said (kid_body depth) line ≡ Some kid → HasRoom depth kid.1
unfolding said
kid_room depth line kid e = given (said (kid_body depth) line) kid (after (kid_body depth) _ (kid_gives depth)) e

root_gives : (text : List ℕ) → Gives (root_body text) (HasRoom 0)
unfolding root_body
root_gives text = either (starts_with nat_eq text (codes "root ")) (body_at 0 (drop 5 text)) None (body_fits 0 (drop 5 text)) nothing

pub root_room : (line : List ℕ) (body : BodyLine) → said root_body line ≡ Some body → HasRoom 0 body
unfolding said
root_room line body e = given (said root_body line) body (after root_body _ root_gives) e
