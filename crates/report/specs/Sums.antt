-- What is written behind many files.
use Rattle.std.specs.Prelude.{ℕ, ◌-◌, List, ◌++◌, codes, decimal}

-- how many files were read, how many of them accepted, and how many refused
abbrev pub sum_text : ℕ → ℕ → List ℕ
sum_text read accepted = decimal read ++ (codes " files, " ++ (decimal accepted ++ (codes " accepted, " ++ (decimal (read - accepted) ++ codes " refused"))))
