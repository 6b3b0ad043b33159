-- Inner: no public clause cites this file.
-- The bytes of a text, by what it is held as or written from.
use Rattle.std.specs.Prelude.{ℕ, List}
use Rattle.std.specs.List.{concat}
use Rattle.cert_text.specs.Certificate.{HasText}
use Rattle.cert_text.specs.SeenCert.{cert_of}
use Rattle.cert_text.specs.Written.{cert_lines}
use Rattle.command_answers.specs.Unmoves.{unmoves_text}
use Rattle.command_answers.specs.declared.texts.Form.{Form}
use Rattle.command_answers.specs.declared.texts.Form.TheVariants.{Line, Lines, Retractions, Certificate}

-- the bytes of the text
abbrev pub bytes_of : Form → List ℕ
bytes_of (Line line) = line.items
bytes_of (Lines lines) = lines.items
bytes_of (Retractions query) = unmoves_text query
bytes_of (Certificate cert) = concat (cert_lines (cert_of cert))

-- a certificate that is to be written has a text
abbrev pub IsWritable : Form → Type 0
IsWritable (Certificate cert) = HasText (cert_of cert)
IsWritable form = Unit {0}
