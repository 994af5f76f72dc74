-- A section of a file is a count of two bytes and that many rows, all of one size. Assumes nothing.
use Rattle.std.specs.Prelude.{ℕ, ◌+◌, ◌*◌, Bool, ◌&&◌, List, [], ◌∷◌, leb, length, take, drop}
use Rattle.wire.specs.Bytes.{u16_at}
use Rattle.stages.specs.Stage.{Stage, once, place, field_place}

-- the numbers of the three kinds of fault in a file's sections
pub record Numbers : Type 0 where
  -- the file ends inside the count or the rows
  pub cut : ℕ
  -- the count is not one that is allowed
  pub beyond : ℕ
  -- a row breaks its rule
  pub bad : ℕ

abbrev pub between : ℕ → ℕ → ℕ → Bool
between least most n = leb least n && leb n most

abbrev pub count : List ℕ → ℕ
count part = u16_at part 0

-- a test of each field of each row: the fault is the first row that has a field that fails, and in it the first such field
abbrev pub table : ℕ → ℕ → ℕ → ℕ → (ℕ → ℕ → Bool) → Stage
table k number n fields ok = record { number = k; rows = n; cols = fields; test = ok; named = field_place number }

-- Per section: the count, its limit, room for all rows, then the rows in order. `part` is the file from the section's count on, `fields`
-- says how many fields a row has, and `ok i f` whether the field f of the row i passes its test.
abbrev pub section : Numbers → ℕ → ℕ → ℕ → ℕ → ℕ → (ℕ → ℕ → Bool) → List ℕ → List Stage
section numbers number least most size fields ok part =
    once numbers.cut (place number 0) (leb 2 (length part))
    ∷ once numbers.beyond (place number 0) (between least most (count part))
    ∷ once numbers.cut (place number 0) (leb (2 + size * count part) (length part))
    ∷ table numbers.bad number (count part) fields ok
    ∷ []

-- Each section starts where the one before it ended.
abbrev pub after : ℕ → List ℕ → List ℕ
after size part = drop (2 + size * count part) part

-- a section's rows, without the count
abbrev pub rows : ℕ → List ℕ → List ℕ
rows size part = take (size * count part) (drop 2 part)

-- where a part of a lent file stands: so many bytes on from where the file stands, which is a block of memory and an offset in it
abbrev pub onward : ℕ → ℕ × ℕ → ℕ × ℕ
onward n place = (place.0, n + place.1)

-- Bytes after the last section.
abbrev pub ended : ℕ → List ℕ → List Stage
ended number part = once number (place 0 0) (leb (length part) 0) ∷ []
