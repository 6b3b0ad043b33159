-- What a search for a dossier answers, by cases.
use Rattle.std.specs.Prelude.{ℕ, Vec}
use Rattle.std.specs.declared.alloc.Global.{Global}
use Rattle.dossier_search.specs.declared.dossiers.Dossier.{Dossier}
use Rattle.dossier_search.specs.declared.dossiers.Dossier.TheVariants as dossier

abbrev pub IfWritten : Dossier → (Vec ℕ Global → Type 0) → Type 0
IfWritten (dossier.Written text) P = P text
IfWritten (dossier.Unlisted step) P = Unit {0}
IfWritten (dossier.Undecided part) P = Unit {0}
IfWritten (dossier.Spent part) P = Unit {0}

abbrev pub IfUnlisted : Dossier → (ℕ → Type 0) → Type 0
IfUnlisted (dossier.Written text) P = Unit {0}
IfUnlisted (dossier.Unlisted step) P = P step
IfUnlisted (dossier.Undecided part) P = Unit {0}
IfUnlisted (dossier.Spent part) P = Unit {0}

abbrev pub IfUndecided : Dossier → (ℕ → Type 0) → Type 0
IfUndecided (dossier.Written text) P = Unit {0}
IfUndecided (dossier.Unlisted step) P = Unit {0}
IfUndecided (dossier.Undecided part) P = P part
IfUndecided (dossier.Spent part) P = Unit {0}

abbrev pub IfSpent : Dossier → (ℕ → Type 0) → Type 0
IfSpent (dossier.Written text) P = Unit {0}
IfSpent (dossier.Unlisted step) P = Unit {0}
IfSpent (dossier.Undecided part) P = Unit {0}
IfSpent (dossier.Spent part) P = P part
