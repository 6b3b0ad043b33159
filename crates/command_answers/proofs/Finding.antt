-- What is told of what a search found.
use Rattle.std.proofs.Common.{◌≡◌, ℕ, List, refl, sym, subst}
use Rattle.std.specs.List.{concat}
use Rattle.board_base.specs.declared.moves.Move.{Move}
use Rattle.board_base.specs.declared.unmoves.Unmove.{Unmove}
use Rattle.cert_text.specs.SeenCert.{cert_of}
use Rattle.cert_text.specs.Written.{cert_lines}
use Rattle.cert_text.specs.declared.certificates.Cert.{Cert}
use Rattle.position_report.specs.Answers.{IfCountered, IfUndecided}
use Rattle.position_report.specs.Found.{Found}
use Rattle.position_report.specs.Found.TheVariants as found
use Rattle.command_answers.specs.Solves.{countered_line, spent_line, undecided_line}
use Rattle.command_answers.specs.Told.{TellsFound}
use Rattle.command_answers.specs.declared.statuses.Status.{Status}
use Rattle.command_answers.specs.declared.statuses.Status.TheVariants.{Done, Undecided, Countered, Spent}

pub if_undecided : (f : Found) (P Q : List Unmove → Type 0) → ((l : List Unmove) → P l → Q l) → IfUndecided f P → IfUndecided f Q
if_undecided (found.Proved cert) P Q on h = h
if_undecided (found.Undecided line) P Q on h = on line h
if_undecided (found.Countered game) P Q on h = h
if_undecided (found.Spent n) P Q on h = h

pub if_countered : (f : Found) (P Q : List Move → Type 0) → ((g : List Move) → P g → Q g) → IfCountered f P → IfCountered f Q
if_countered (found.Proved cert) P Q on h = h
if_countered (found.Undecided line) P Q on h = h
if_countered (found.Countered game) P Q on h = on game h
if_countered (found.Spent n) P Q on h = h

-- what is to be said is told, if it is so of each thing that may be found
pub found-told : (Said : Status → List ℕ → Type 0) (what : Found) (ending : Status) (text : List ℕ)
    → ((cert : Cert) → what ≡ found.Proved cert → text ≡ concat (cert_lines (cert_of cert)) → Said Done text)
    → ((line : List Unmove) → what ≡ found.Undecided line → text ≡ undecided_line line → Said Undecided text)
    → ((game : List Move) → what ≡ found.Countered game → text ≡ countered_line game → Said Countered text)
    → ((n : ℕ) → what ≡ found.Spent n → text ≡ spent_line n → Said Spent text)
    → TellsFound what ending text → Said ending text
found-told Said (found.Proved cert) ending text proved undecided countered spent told = subst (λ (e : Status). Said e text) (sym told.0) (proved cert refl told.1)
found-told Said (found.Undecided line) ending text proved undecided countered spent told = subst (λ (e : Status). Said e text) (sym told.0) (undecided line refl told.1)
found-told Said (found.Countered game) ending text proved undecided countered spent told = subst (λ (e : Status). Said e text) (sym told.0) (countered game refl told.1)
found-told Said (found.Spent n) ending text proved undecided countered spent told = subst (λ (e : Status). Said e text) (sym told.0) (spent n refl told.1)
