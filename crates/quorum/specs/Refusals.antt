-- Which makings of a rule are refused, with what, and under which number.
use Rattle.std.specs.Prelude.{ℕ, ◌*◌, ◌≤◌, Bool, cond, ◌&&◌, Some, None, Option, nat_le, nat_lt}
use Rattle.quorum.specs.declared.refusal.RuleRefusal.{RuleRefusal}

-- The number under which a refusal is reported: 1 of every making and of a draft, 2 of a count alone.
abbrev pub number : RuleRefusal → ℕ
number RuleRefusal.OutOfLimits = 1
number RuleRefusal.TooManyFaults = 2

-- Refused as out of limits unless the test holds, and otherwise what comes next.
abbrev pub limited : Bool → Option RuleRefusal → Option RuleRefusal
limited ok next = cond ok next (Some RuleRefusal.OutOfLimits)

-- A rule has 1 to 24 replicas.
abbrev pub sized : ℕ → Bool
sized s = nat_le 1 s && nat_le s 24

-- Limits first, then that less than half may fail.
abbrev pub count_refusal : ℕ → ℕ → Option RuleRefusal
count_refusal s f = limited (sized s) (cond (nat_lt (2 * f) s) None (Some RuleRefusal.TooManyFaults))

-- A lead over a rule of s replicas is one of them.
abbrev pub lead_refusal : ℕ → ℕ → Option RuleRefusal
lead_refusal s lead = limited (sized s && nat_lt lead s) None

-- Rows and columns, or groups and their places: each at least 1, and together at most 24 replicas.
abbrev pub Product : ℕ → ℕ → Type 0
Product a b = (1 ≤ a) × (1 ≤ b) × (a * b ≤ 24)

abbrev pub product_fits : ℕ → ℕ → Bool
product_fits a b = nat_le 1 a && nat_le 1 b && nat_le (a * b) 24

abbrev pub product_refusal : ℕ → ℕ → Option RuleRefusal
product_refusal a b = limited (product_fits a b) None
