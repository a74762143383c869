-- The letters of signals, as ASCII bytes. Assumes nothing.
use Rattle.std.specs.Prelude.{ℕ}

abbrev pub A : ℕ
A = 65

abbrev pub B : ℕ
B = 66

abbrev pub C : ℕ
C = 67

abbrev pub D : ℕ
D = 68

abbrev pub I : ℕ
I = 73

abbrev pub L : ℕ
L = 76

abbrev pub M : ℕ
M = 77

abbrev pub P : ℕ
P = 80

abbrev pub Q : ℕ
Q = 81

abbrev pub S : ℕ
S = 83

abbrev pub W : ℕ
W = 87

abbrev pub X : ℕ
X = 88

abbrev pub Y : ℕ
Y = 89

abbrev pub Z : ℕ
Z = 90
