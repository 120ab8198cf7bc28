-- The sizes and widths of some texts, by the definition.
use Rattle.std.proofs.Common.{◌≡◌, ◌+◌, ◌-◌, ◌*◌, ◌^◌, codes, refl}
use Rattle.lf_sizes.specs.Sizes.{size_of, width_of}

-- 4 characters, a class with 2 bytes in it, and a dot with a sign
class_and_dot : size_of (codes "api-[12].*") ≡ 4 + (16 + 2) + (16 + 4)
class_and_dot = refl

-- a number counts what stands before it, a group with its end
counts_of_groups : size_of (codes "(a{2}b){3}c") ≡ (2 + 1 + 3) * 3 + 1
counts_of_groups = refl

-- a class within a class counts too, and 512 where letters match their other cases
classes : size_of (codes "[a[b]]") ≡ 16 + 1 + 16 + 1
classes = refl

folded_class : size_of (codes "(?i)[ab]") ≡ 3 + 512 + 2
folded_class = refl

-- 0 counts as 1, and of two numbers the greater one counts
least_count : size_of (codes "a{0}b{2,5}c{7,}") ≡ 1 + 5 + 7
least_count = refl

-- behind the flag `i` a character counts 8, and a `|` as much as elsewhere
other_cases : size_of (codes "a(?i)b|c") ≡ 1 + 3 + 8 + 6 + 8
other_cases = refl

-- a `)` without a `(` ends a group with all that stands before it, and a `(` without a `)` begins none
unmatched : size_of (codes "ab){2}(c(d") ≡ (2 + 3) * 2 + 1 + 1
unmatched = refl

-- a second one ends nothing, and what stands before it counts no more often
no_group : size_of (codes "ab){2}c){2}d)") ≡ (2 + 3) * 2 + 1 + 3 * 2 + 1 + 3
no_group = refl

-- a name may have brackets
named_group : size_of (codes "(?P<a[>(b){2}){3}") ≡ (4 + (1 + 3) * 2 + 3) * 3
named_group = refl

-- no size is greater than this
greatest : size_of (codes "((a{99999999}){99999999}){99999999}") ≡ 2 ^ 64 - 1
greatest = refl

-- in a width classes count 2 to 8, and what else stands there as in a size
width_of_classes : width_of (codes "api-[12].*") ≡ 4 + (2 + 2) + (2 + 1)
width_of_classes = refl

width_of_letters : width_of (codes "(\\w+\\.){3}[\\w-]{1,5}") ≡ ((8 + 1) + 1 + 1) * 3 + (2 + 8 + 1 + 1) * 5
width_of_letters = refl

width_of_groups : width_of (codes "(a|b)*a(a|b){200}") ≡ (3 + 1 + 1) + 1 + (3 + 1) * 200
width_of_groups = refl

-- and a comma in braces counts 1, each time that what stands before it counts
width_of_optional_parts : width_of (codes "(a{0,30}){0,30}b{3}") ≡ ((1 + 1) * 30 + 1 + 1) * 30 + 3
width_of_optional_parts = refl

-- behind the flag `i` a character counts 2 there
width_of_other_cases : width_of (codes "a(?i)b[a-z]") ≡ 1 + 1 + 2 + (8 + 3)
width_of_other_cases = refl
