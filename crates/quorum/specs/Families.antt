-- The meaning of each rule: its size and its two families.
use Rattle.std.specs.Prelude.{ℕ, ◌+◌, ◌-◌, ◌*◌, ◌&&◌, ◌||◌, nat_le, nat_lt}
use Rattle.quorum.specs.Sets.{Members, Family, Rule, count, every, some}

-- Of s replicas at most f fail.
abbrev pub count_rule : ℕ → ℕ → Rule
count_rule s f = record {
  size = s;
  round = λ p. nat_le (s - f) (count p s);
  hold = λ p. nat_le (f + 1) (count p s);
}

-- A grid of r rows and c columns: replica row * c + column.
abbrev pub column_full : ℕ → ℕ → Members → Members
column_full r c p col = every (λ row. p (row * c + col)) r

abbrev pub column_touched : ℕ → ℕ → Members → Members
column_touched r c p col = some (λ row. p (row * c + col)) r

-- A full column and a member in every column; a full column.
abbrev pub grid_rule : ℕ → ℕ → Rule
grid_rule r c = record {
  size = r * c;
  round = λ p. some (column_full r c p) c && every (column_touched r c p) c;
  hold = λ p. some (column_full r c p) c;
}

-- One of n replicas leads, n the size of the rule below: a round set has it, and it holds alone.
abbrev pub lead_rule : ℕ → Rule → ℕ → Rule
lead_rule n below lead = record {
  size = n;
  round = λ p. below.round p && p lead;
  hold = λ p. below.hold p || p lead;
}

-- The part of a set in group g of n places each: its replica g * n + place, and no place from n on.
abbrev pub part : ℕ → Members → ℕ → Members
part n p g place = nat_lt place n && p (g * n + place)

-- The groups below m whose part is in the family.
abbrev pub grouped : ℕ → ℕ → Family → Members → Members
grouped m n inner p g = nat_lt g m && inner (part n p g)

-- m groups of n places: the outer rule judges the groups, and the inner one the part of each.
abbrev pub grouped_rule : ℕ → ℕ → Rule → Rule → Rule
grouped_rule m n outer inner = record {
  size = m * n;
  round = λ p. outer.round (grouped m n inner.round p);
  hold = λ p. outer.hold (grouped m n inner.hold p);
}
