-- What is printed of a reading and of a look-up: what was read, and what came of it. Assumes nothing.
use Rattle.std.specs.Prelude.{ℕ, List, ◌∷◌, ◌++◌, codes, Result, Ok, Err, ⊤}
use Rattle.std.specs.Fmt.{decimal}
use Rattle.stages.specs.declared.Refusal.{Refusal}
use Rattle.stages.specs.Text.{refusal_text}
use Rattle.readings.specs.declared.File.{File}
use Rattle.readings.specs.declared.File.TheVariants.{Day, Clearing}

-- the number and the place behind a space; zeros where nothing is refused
abbrev pub fault_text : Result ⊤ Refusal → List ℕ
fault_text (Ok _) = codes " 0 0 0 0"
fault_text (Err r) = 32 ∷ refusal_text r

abbrev pub file_text : File → List ℕ
file_text Day = codes "day"
file_text Clearing = codes "clearing"

-- a file of which the first n bytes are read
abbrev pub cut_text : File → ℕ → List ℕ
cut_text file n = file_text file ++ (codes " cut to " ++ decimal n)

-- a file with one byte altered
abbrev pub altered_text : File → ℕ → ℕ → List ℕ
altered_text file at value = file_text file ++ (codes " byte " ++ (decimal at ++ (codes " is " ++ decimal value)))

-- a look-up, before what it is refused with
abbrev pub asked_text : List ℕ → ℕ → List ℕ
asked_text name section = name ++ (codes " section " ++ (decimal section ++ codes " refused"))

-- how many bytes a part has
abbrev pub size_text : ℕ → List ℕ
size_text n = codes " part of " ++ decimal n
