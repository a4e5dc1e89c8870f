-- Histories, which are lists of entries, and the seats that made the entries.
use Rattle.std.specs.Prelude.{◌≡◌, ℕ, ◌==◌, List, ◌++◌, length, nat_le, if◌then◌else◌, All, Contains, filter}
use Rattle.std.specs.List.{list_any}

-- none of the entries was made by one of these seats
abbrev pub Outside : {E : Type 0} → (E → ℕ) → List ℕ → List E → Type 0
Outside maker names entries = All (λ e. ¬ Contains names (maker e)) entries

-- the later history begins with the earlier one, and goes on with entries that none of these seats made
abbrev pub GrowsByOthers : {E : Type 0} → (E → ℕ) → List ℕ → List E → List E → Type 0
GrowsByOthers {E} maker names earlier later = (since : List E) × (later ≡ earlier ++ since) × Outside maker names since

-- the entries that these seats made, in their order
abbrev pub own_of : {E : Type 0} → (E → ℕ) → List ℕ → List E → List E
own_of maker names entries = filter (λ e. list_any (λ n. n == maker e) names) entries

-- the longer of two histories
abbrev pub longer : {E : Type 0} → List E → List E → List E
longer p q = if nat_le (length p) (length q) then q else p
