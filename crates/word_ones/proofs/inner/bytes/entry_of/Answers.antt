-- `entry_of` meets its contract: each arm's constant is what the definition computes for its byte. Assumes nothing.
use Rattle.std.proofs.Common.{◌≡◌, ℕ, sym, refl, ap, ◌∙◌}
use Rattle.word_ones.specs.Table.{entry_of}
use Rattle.word_ones.proofs.TableLaws.{computed, others-last}
use Rattle.word_ones.proofs.inner.bytes.entry_of.Goals as goal

-- an arm, of the byte n: the constant is its entry
arm : (n byte x : ℕ) → byte ≡ n → x ≡ entry_of n → x ≡ entry_of byte
arm n byte x e p = p ∙ ap entry_of (sym e)

-- the last arm
pub returns-in_default : goal.returns-in_default
unfolding computed
returns-in_default c = arm 255 _ _ (others-last _ c.ranges.byte.fits c.in_default.in_default-own.rest) refl

pub returns-in-0 : goal.returns-in-0
unfolding computed
returns-in-0 c = arm 0 _ _ c.in-0.is refl

pub returns-in-1 : goal.returns-in-1
unfolding computed
returns-in-1 c = arm 1 _ _ c.in-1.is refl

pub returns-in-2 : goal.returns-in-2
unfolding computed
returns-in-2 c = arm 2 _ _ c.in-2.is refl

pub returns-in-3 : goal.returns-in-3
unfolding computed
returns-in-3 c = arm 3 _ _ c.in-3.is refl

pub returns-in-4 : goal.returns-in-4
unfolding computed
returns-in-4 c = arm 4 _ _ c.in-4.is refl

pub returns-in-5 : goal.returns-in-5
unfolding computed
returns-in-5 c = arm 5 _ _ c.in-5.is refl

pub returns-in-6 : goal.returns-in-6
unfolding computed
returns-in-6 c = arm 6 _ _ c.in-6.is refl

pub returns-in-7 : goal.returns-in-7
unfolding computed
returns-in-7 c = arm 7 _ _ c.in-7.is refl

pub returns-in-8 : goal.returns-in-8
unfolding computed
returns-in-8 c = arm 8 _ _ c.in-8.is refl

pub returns-in-9 : goal.returns-in-9
unfolding computed
returns-in-9 c = arm 9 _ _ c.in-9.is refl

pub returns-in-10 : goal.returns-in-10
unfolding computed
returns-in-10 c = arm 10 _ _ c.in-10.is refl

pub returns-in-11 : goal.returns-in-11
unfolding computed
returns-in-11 c = arm 11 _ _ c.in-11.is refl

pub returns-in-12 : goal.returns-in-12
unfolding computed
returns-in-12 c = arm 12 _ _ c.in-12.is refl

pub returns-in-13 : goal.returns-in-13
unfolding computed
returns-in-13 c = arm 13 _ _ c.in-13.is refl

pub returns-in-14 : goal.returns-in-14
unfolding computed
returns-in-14 c = arm 14 _ _ c.in-14.is refl

pub returns-in-15 : goal.returns-in-15
unfolding computed
returns-in-15 c = arm 15 _ _ c.in-15.is refl

pub returns-in-16 : goal.returns-in-16
unfolding computed
returns-in-16 c = arm 16 _ _ c.in-16.is refl

pub returns-in-17 : goal.returns-in-17
unfolding computed
returns-in-17 c = arm 17 _ _ c.in-17.is refl

pub returns-in-18 : goal.returns-in-18
unfolding computed
returns-in-18 c = arm 18 _ _ c.in-18.is refl

pub returns-in-19 : goal.returns-in-19
unfolding computed
returns-in-19 c = arm 19 _ _ c.in-19.is refl

pub returns-in-20 : goal.returns-in-20
unfolding computed
returns-in-20 c = arm 20 _ _ c.in-20.is refl

pub returns-in-21 : goal.returns-in-21
unfolding computed
returns-in-21 c = arm 21 _ _ c.in-21.is refl

pub returns-in-22 : goal.returns-in-22
unfolding computed
returns-in-22 c = arm 22 _ _ c.in-22.is refl

pub returns-in-23 : goal.returns-in-23
unfolding computed
returns-in-23 c = arm 23 _ _ c.in-23.is refl

pub returns-in-24 : goal.returns-in-24
unfolding computed
returns-in-24 c = arm 24 _ _ c.in-24.is refl

pub returns-in-25 : goal.returns-in-25
unfolding computed
returns-in-25 c = arm 25 _ _ c.in-25.is refl

pub returns-in-26 : goal.returns-in-26
unfolding computed
returns-in-26 c = arm 26 _ _ c.in-26.is refl

pub returns-in-27 : goal.returns-in-27
unfolding computed
returns-in-27 c = arm 27 _ _ c.in-27.is refl

pub returns-in-28 : goal.returns-in-28
unfolding computed
returns-in-28 c = arm 28 _ _ c.in-28.is refl

pub returns-in-29 : goal.returns-in-29
unfolding computed
returns-in-29 c = arm 29 _ _ c.in-29.is refl

pub returns-in-30 : goal.returns-in-30
unfolding computed
returns-in-30 c = arm 30 _ _ c.in-30.is refl

pub returns-in-31 : goal.returns-in-31
unfolding computed
returns-in-31 c = arm 31 _ _ c.in-31.is refl

pub returns-in-32 : goal.returns-in-32
unfolding computed
returns-in-32 c = arm 32 _ _ c.in-32.is refl

pub returns-in-33 : goal.returns-in-33
unfolding computed
returns-in-33 c = arm 33 _ _ c.in-33.is refl

pub returns-in-34 : goal.returns-in-34
unfolding computed
returns-in-34 c = arm 34 _ _ c.in-34.is refl

pub returns-in-35 : goal.returns-in-35
unfolding computed
returns-in-35 c = arm 35 _ _ c.in-35.is refl

pub returns-in-36 : goal.returns-in-36
unfolding computed
returns-in-36 c = arm 36 _ _ c.in-36.is refl

pub returns-in-37 : goal.returns-in-37
unfolding computed
returns-in-37 c = arm 37 _ _ c.in-37.is refl

pub returns-in-38 : goal.returns-in-38
unfolding computed
returns-in-38 c = arm 38 _ _ c.in-38.is refl

pub returns-in-39 : goal.returns-in-39
unfolding computed
returns-in-39 c = arm 39 _ _ c.in-39.is refl

pub returns-in-40 : goal.returns-in-40
unfolding computed
returns-in-40 c = arm 40 _ _ c.in-40.is refl

pub returns-in-41 : goal.returns-in-41
unfolding computed
returns-in-41 c = arm 41 _ _ c.in-41.is refl

pub returns-in-42 : goal.returns-in-42
unfolding computed
returns-in-42 c = arm 42 _ _ c.in-42.is refl

pub returns-in-43 : goal.returns-in-43
unfolding computed
returns-in-43 c = arm 43 _ _ c.in-43.is refl

pub returns-in-44 : goal.returns-in-44
unfolding computed
returns-in-44 c = arm 44 _ _ c.in-44.is refl

pub returns-in-45 : goal.returns-in-45
unfolding computed
returns-in-45 c = arm 45 _ _ c.in-45.is refl

pub returns-in-46 : goal.returns-in-46
unfolding computed
returns-in-46 c = arm 46 _ _ c.in-46.is refl

pub returns-in-47 : goal.returns-in-47
unfolding computed
returns-in-47 c = arm 47 _ _ c.in-47.is refl

pub returns-in-48 : goal.returns-in-48
unfolding computed
returns-in-48 c = arm 48 _ _ c.in-48.is refl

pub returns-in-49 : goal.returns-in-49
unfolding computed
returns-in-49 c = arm 49 _ _ c.in-49.is refl

pub returns-in-50 : goal.returns-in-50
unfolding computed
returns-in-50 c = arm 50 _ _ c.in-50.is refl

pub returns-in-51 : goal.returns-in-51
unfolding computed
returns-in-51 c = arm 51 _ _ c.in-51.is refl

pub returns-in-52 : goal.returns-in-52
unfolding computed
returns-in-52 c = arm 52 _ _ c.in-52.is refl

pub returns-in-53 : goal.returns-in-53
unfolding computed
returns-in-53 c = arm 53 _ _ c.in-53.is refl

pub returns-in-54 : goal.returns-in-54
unfolding computed
returns-in-54 c = arm 54 _ _ c.in-54.is refl

pub returns-in-55 : goal.returns-in-55
unfolding computed
returns-in-55 c = arm 55 _ _ c.in-55.is refl

pub returns-in-56 : goal.returns-in-56
unfolding computed
returns-in-56 c = arm 56 _ _ c.in-56.is refl

pub returns-in-57 : goal.returns-in-57
unfolding computed
returns-in-57 c = arm 57 _ _ c.in-57.is refl

pub returns-in-58 : goal.returns-in-58
unfolding computed
returns-in-58 c = arm 58 _ _ c.in-58.is refl

pub returns-in-59 : goal.returns-in-59
unfolding computed
returns-in-59 c = arm 59 _ _ c.in-59.is refl

pub returns-in-60 : goal.returns-in-60
unfolding computed
returns-in-60 c = arm 60 _ _ c.in-60.is refl

pub returns-in-61 : goal.returns-in-61
unfolding computed
returns-in-61 c = arm 61 _ _ c.in-61.is refl

pub returns-in-62 : goal.returns-in-62
unfolding computed
returns-in-62 c = arm 62 _ _ c.in-62.is refl

pub returns-in-63 : goal.returns-in-63
unfolding computed
returns-in-63 c = arm 63 _ _ c.in-63.is refl

pub returns-in-64 : goal.returns-in-64
unfolding computed
returns-in-64 c = arm 64 _ _ c.in-64.is refl

pub returns-in-65 : goal.returns-in-65
unfolding computed
returns-in-65 c = arm 65 _ _ c.in-65.is refl

pub returns-in-66 : goal.returns-in-66
unfolding computed
returns-in-66 c = arm 66 _ _ c.in-66.is refl

pub returns-in-67 : goal.returns-in-67
unfolding computed
returns-in-67 c = arm 67 _ _ c.in-67.is refl

pub returns-in-68 : goal.returns-in-68
unfolding computed
returns-in-68 c = arm 68 _ _ c.in-68.is refl

pub returns-in-69 : goal.returns-in-69
unfolding computed
returns-in-69 c = arm 69 _ _ c.in-69.is refl

pub returns-in-70 : goal.returns-in-70
unfolding computed
returns-in-70 c = arm 70 _ _ c.in-70.is refl

pub returns-in-71 : goal.returns-in-71
unfolding computed
returns-in-71 c = arm 71 _ _ c.in-71.is refl

pub returns-in-72 : goal.returns-in-72
unfolding computed
returns-in-72 c = arm 72 _ _ c.in-72.is refl

pub returns-in-73 : goal.returns-in-73
unfolding computed
returns-in-73 c = arm 73 _ _ c.in-73.is refl

pub returns-in-74 : goal.returns-in-74
unfolding computed
returns-in-74 c = arm 74 _ _ c.in-74.is refl

pub returns-in-75 : goal.returns-in-75
unfolding computed
returns-in-75 c = arm 75 _ _ c.in-75.is refl

pub returns-in-76 : goal.returns-in-76
unfolding computed
returns-in-76 c = arm 76 _ _ c.in-76.is refl

pub returns-in-77 : goal.returns-in-77
unfolding computed
returns-in-77 c = arm 77 _ _ c.in-77.is refl

pub returns-in-78 : goal.returns-in-78
unfolding computed
returns-in-78 c = arm 78 _ _ c.in-78.is refl

pub returns-in-79 : goal.returns-in-79
unfolding computed
returns-in-79 c = arm 79 _ _ c.in-79.is refl

pub returns-in-80 : goal.returns-in-80
unfolding computed
returns-in-80 c = arm 80 _ _ c.in-80.is refl

pub returns-in-81 : goal.returns-in-81
unfolding computed
returns-in-81 c = arm 81 _ _ c.in-81.is refl

pub returns-in-82 : goal.returns-in-82
unfolding computed
returns-in-82 c = arm 82 _ _ c.in-82.is refl

pub returns-in-83 : goal.returns-in-83
unfolding computed
returns-in-83 c = arm 83 _ _ c.in-83.is refl

pub returns-in-84 : goal.returns-in-84
unfolding computed
returns-in-84 c = arm 84 _ _ c.in-84.is refl

pub returns-in-85 : goal.returns-in-85
unfolding computed
returns-in-85 c = arm 85 _ _ c.in-85.is refl

pub returns-in-86 : goal.returns-in-86
unfolding computed
returns-in-86 c = arm 86 _ _ c.in-86.is refl

pub returns-in-87 : goal.returns-in-87
unfolding computed
returns-in-87 c = arm 87 _ _ c.in-87.is refl

pub returns-in-88 : goal.returns-in-88
unfolding computed
returns-in-88 c = arm 88 _ _ c.in-88.is refl

pub returns-in-89 : goal.returns-in-89
unfolding computed
returns-in-89 c = arm 89 _ _ c.in-89.is refl

pub returns-in-90 : goal.returns-in-90
unfolding computed
returns-in-90 c = arm 90 _ _ c.in-90.is refl

pub returns-in-91 : goal.returns-in-91
unfolding computed
returns-in-91 c = arm 91 _ _ c.in-91.is refl

pub returns-in-92 : goal.returns-in-92
unfolding computed
returns-in-92 c = arm 92 _ _ c.in-92.is refl

pub returns-in-93 : goal.returns-in-93
unfolding computed
returns-in-93 c = arm 93 _ _ c.in-93.is refl

pub returns-in-94 : goal.returns-in-94
unfolding computed
returns-in-94 c = arm 94 _ _ c.in-94.is refl

pub returns-in-95 : goal.returns-in-95
unfolding computed
returns-in-95 c = arm 95 _ _ c.in-95.is refl

pub returns-in-96 : goal.returns-in-96
unfolding computed
returns-in-96 c = arm 96 _ _ c.in-96.is refl

pub returns-in-97 : goal.returns-in-97
unfolding computed
returns-in-97 c = arm 97 _ _ c.in-97.is refl

pub returns-in-98 : goal.returns-in-98
unfolding computed
returns-in-98 c = arm 98 _ _ c.in-98.is refl

pub returns-in-99 : goal.returns-in-99
unfolding computed
returns-in-99 c = arm 99 _ _ c.in-99.is refl

pub returns-in-100 : goal.returns-in-100
unfolding computed
returns-in-100 c = arm 100 _ _ c.in-100.is refl

pub returns-in-101 : goal.returns-in-101
unfolding computed
returns-in-101 c = arm 101 _ _ c.in-101.is refl

pub returns-in-102 : goal.returns-in-102
unfolding computed
returns-in-102 c = arm 102 _ _ c.in-102.is refl

pub returns-in-103 : goal.returns-in-103
unfolding computed
returns-in-103 c = arm 103 _ _ c.in-103.is refl

pub returns-in-104 : goal.returns-in-104
unfolding computed
returns-in-104 c = arm 104 _ _ c.in-104.is refl

pub returns-in-105 : goal.returns-in-105
unfolding computed
returns-in-105 c = arm 105 _ _ c.in-105.is refl

pub returns-in-106 : goal.returns-in-106
unfolding computed
returns-in-106 c = arm 106 _ _ c.in-106.is refl

pub returns-in-107 : goal.returns-in-107
unfolding computed
returns-in-107 c = arm 107 _ _ c.in-107.is refl

pub returns-in-108 : goal.returns-in-108
unfolding computed
returns-in-108 c = arm 108 _ _ c.in-108.is refl

pub returns-in-109 : goal.returns-in-109
unfolding computed
returns-in-109 c = arm 109 _ _ c.in-109.is refl

pub returns-in-110 : goal.returns-in-110
unfolding computed
returns-in-110 c = arm 110 _ _ c.in-110.is refl

pub returns-in-111 : goal.returns-in-111
unfolding computed
returns-in-111 c = arm 111 _ _ c.in-111.is refl

pub returns-in-112 : goal.returns-in-112
unfolding computed
returns-in-112 c = arm 112 _ _ c.in-112.is refl

pub returns-in-113 : goal.returns-in-113
unfolding computed
returns-in-113 c = arm 113 _ _ c.in-113.is refl

pub returns-in-114 : goal.returns-in-114
unfolding computed
returns-in-114 c = arm 114 _ _ c.in-114.is refl

pub returns-in-115 : goal.returns-in-115
unfolding computed
returns-in-115 c = arm 115 _ _ c.in-115.is refl

pub returns-in-116 : goal.returns-in-116
unfolding computed
returns-in-116 c = arm 116 _ _ c.in-116.is refl

pub returns-in-117 : goal.returns-in-117
unfolding computed
returns-in-117 c = arm 117 _ _ c.in-117.is refl

pub returns-in-118 : goal.returns-in-118
unfolding computed
returns-in-118 c = arm 118 _ _ c.in-118.is refl

pub returns-in-119 : goal.returns-in-119
unfolding computed
returns-in-119 c = arm 119 _ _ c.in-119.is refl

pub returns-in-120 : goal.returns-in-120
unfolding computed
returns-in-120 c = arm 120 _ _ c.in-120.is refl

pub returns-in-121 : goal.returns-in-121
unfolding computed
returns-in-121 c = arm 121 _ _ c.in-121.is refl

pub returns-in-122 : goal.returns-in-122
unfolding computed
returns-in-122 c = arm 122 _ _ c.in-122.is refl

pub returns-in-123 : goal.returns-in-123
unfolding computed
returns-in-123 c = arm 123 _ _ c.in-123.is refl

pub returns-in-124 : goal.returns-in-124
unfolding computed
returns-in-124 c = arm 124 _ _ c.in-124.is refl

pub returns-in-125 : goal.returns-in-125
unfolding computed
returns-in-125 c = arm 125 _ _ c.in-125.is refl

pub returns-in-126 : goal.returns-in-126
unfolding computed
returns-in-126 c = arm 126 _ _ c.in-126.is refl

pub returns-in-127 : goal.returns-in-127
unfolding computed
returns-in-127 c = arm 127 _ _ c.in-127.is refl

pub returns-in-128 : goal.returns-in-128
unfolding computed
returns-in-128 c = arm 128 _ _ c.in-128.is refl

pub returns-in-129 : goal.returns-in-129
unfolding computed
returns-in-129 c = arm 129 _ _ c.in-129.is refl

pub returns-in-130 : goal.returns-in-130
unfolding computed
returns-in-130 c = arm 130 _ _ c.in-130.is refl

pub returns-in-131 : goal.returns-in-131
unfolding computed
returns-in-131 c = arm 131 _ _ c.in-131.is refl

pub returns-in-132 : goal.returns-in-132
unfolding computed
returns-in-132 c = arm 132 _ _ c.in-132.is refl

pub returns-in-133 : goal.returns-in-133
unfolding computed
returns-in-133 c = arm 133 _ _ c.in-133.is refl

pub returns-in-134 : goal.returns-in-134
unfolding computed
returns-in-134 c = arm 134 _ _ c.in-134.is refl

pub returns-in-135 : goal.returns-in-135
unfolding computed
returns-in-135 c = arm 135 _ _ c.in-135.is refl

pub returns-in-136 : goal.returns-in-136
unfolding computed
returns-in-136 c = arm 136 _ _ c.in-136.is refl

pub returns-in-137 : goal.returns-in-137
unfolding computed
returns-in-137 c = arm 137 _ _ c.in-137.is refl

pub returns-in-138 : goal.returns-in-138
unfolding computed
returns-in-138 c = arm 138 _ _ c.in-138.is refl

pub returns-in-139 : goal.returns-in-139
unfolding computed
returns-in-139 c = arm 139 _ _ c.in-139.is refl

pub returns-in-140 : goal.returns-in-140
unfolding computed
returns-in-140 c = arm 140 _ _ c.in-140.is refl

pub returns-in-141 : goal.returns-in-141
unfolding computed
returns-in-141 c = arm 141 _ _ c.in-141.is refl

pub returns-in-142 : goal.returns-in-142
unfolding computed
returns-in-142 c = arm 142 _ _ c.in-142.is refl

pub returns-in-143 : goal.returns-in-143
unfolding computed
returns-in-143 c = arm 143 _ _ c.in-143.is refl

pub returns-in-144 : goal.returns-in-144
unfolding computed
returns-in-144 c = arm 144 _ _ c.in-144.is refl

pub returns-in-145 : goal.returns-in-145
unfolding computed
returns-in-145 c = arm 145 _ _ c.in-145.is refl

pub returns-in-146 : goal.returns-in-146
unfolding computed
returns-in-146 c = arm 146 _ _ c.in-146.is refl

pub returns-in-147 : goal.returns-in-147
unfolding computed
returns-in-147 c = arm 147 _ _ c.in-147.is refl

pub returns-in-148 : goal.returns-in-148
unfolding computed
returns-in-148 c = arm 148 _ _ c.in-148.is refl

pub returns-in-149 : goal.returns-in-149
unfolding computed
returns-in-149 c = arm 149 _ _ c.in-149.is refl

pub returns-in-150 : goal.returns-in-150
unfolding computed
returns-in-150 c = arm 150 _ _ c.in-150.is refl

pub returns-in-151 : goal.returns-in-151
unfolding computed
returns-in-151 c = arm 151 _ _ c.in-151.is refl

pub returns-in-152 : goal.returns-in-152
unfolding computed
returns-in-152 c = arm 152 _ _ c.in-152.is refl

pub returns-in-153 : goal.returns-in-153
unfolding computed
returns-in-153 c = arm 153 _ _ c.in-153.is refl

pub returns-in-154 : goal.returns-in-154
unfolding computed
returns-in-154 c = arm 154 _ _ c.in-154.is refl

pub returns-in-155 : goal.returns-in-155
unfolding computed
returns-in-155 c = arm 155 _ _ c.in-155.is refl

pub returns-in-156 : goal.returns-in-156
unfolding computed
returns-in-156 c = arm 156 _ _ c.in-156.is refl

pub returns-in-157 : goal.returns-in-157
unfolding computed
returns-in-157 c = arm 157 _ _ c.in-157.is refl

pub returns-in-158 : goal.returns-in-158
unfolding computed
returns-in-158 c = arm 158 _ _ c.in-158.is refl

pub returns-in-159 : goal.returns-in-159
unfolding computed
returns-in-159 c = arm 159 _ _ c.in-159.is refl

pub returns-in-160 : goal.returns-in-160
unfolding computed
returns-in-160 c = arm 160 _ _ c.in-160.is refl

pub returns-in-161 : goal.returns-in-161
unfolding computed
returns-in-161 c = arm 161 _ _ c.in-161.is refl

pub returns-in-162 : goal.returns-in-162
unfolding computed
returns-in-162 c = arm 162 _ _ c.in-162.is refl

pub returns-in-163 : goal.returns-in-163
unfolding computed
returns-in-163 c = arm 163 _ _ c.in-163.is refl

pub returns-in-164 : goal.returns-in-164
unfolding computed
returns-in-164 c = arm 164 _ _ c.in-164.is refl

pub returns-in-165 : goal.returns-in-165
unfolding computed
returns-in-165 c = arm 165 _ _ c.in-165.is refl

pub returns-in-166 : goal.returns-in-166
unfolding computed
returns-in-166 c = arm 166 _ _ c.in-166.is refl

pub returns-in-167 : goal.returns-in-167
unfolding computed
returns-in-167 c = arm 167 _ _ c.in-167.is refl

pub returns-in-168 : goal.returns-in-168
unfolding computed
returns-in-168 c = arm 168 _ _ c.in-168.is refl

pub returns-in-169 : goal.returns-in-169
unfolding computed
returns-in-169 c = arm 169 _ _ c.in-169.is refl

pub returns-in-170 : goal.returns-in-170
unfolding computed
returns-in-170 c = arm 170 _ _ c.in-170.is refl

pub returns-in-171 : goal.returns-in-171
unfolding computed
returns-in-171 c = arm 171 _ _ c.in-171.is refl

pub returns-in-172 : goal.returns-in-172
unfolding computed
returns-in-172 c = arm 172 _ _ c.in-172.is refl

pub returns-in-173 : goal.returns-in-173
unfolding computed
returns-in-173 c = arm 173 _ _ c.in-173.is refl

pub returns-in-174 : goal.returns-in-174
unfolding computed
returns-in-174 c = arm 174 _ _ c.in-174.is refl

pub returns-in-175 : goal.returns-in-175
unfolding computed
returns-in-175 c = arm 175 _ _ c.in-175.is refl

pub returns-in-176 : goal.returns-in-176
unfolding computed
returns-in-176 c = arm 176 _ _ c.in-176.is refl

pub returns-in-177 : goal.returns-in-177
unfolding computed
returns-in-177 c = arm 177 _ _ c.in-177.is refl

pub returns-in-178 : goal.returns-in-178
unfolding computed
returns-in-178 c = arm 178 _ _ c.in-178.is refl

pub returns-in-179 : goal.returns-in-179
unfolding computed
returns-in-179 c = arm 179 _ _ c.in-179.is refl

pub returns-in-180 : goal.returns-in-180
unfolding computed
returns-in-180 c = arm 180 _ _ c.in-180.is refl

pub returns-in-181 : goal.returns-in-181
unfolding computed
returns-in-181 c = arm 181 _ _ c.in-181.is refl

pub returns-in-182 : goal.returns-in-182
unfolding computed
returns-in-182 c = arm 182 _ _ c.in-182.is refl

pub returns-in-183 : goal.returns-in-183
unfolding computed
returns-in-183 c = arm 183 _ _ c.in-183.is refl

pub returns-in-184 : goal.returns-in-184
unfolding computed
returns-in-184 c = arm 184 _ _ c.in-184.is refl

pub returns-in-185 : goal.returns-in-185
unfolding computed
returns-in-185 c = arm 185 _ _ c.in-185.is refl

pub returns-in-186 : goal.returns-in-186
unfolding computed
returns-in-186 c = arm 186 _ _ c.in-186.is refl

pub returns-in-187 : goal.returns-in-187
unfolding computed
returns-in-187 c = arm 187 _ _ c.in-187.is refl

pub returns-in-188 : goal.returns-in-188
unfolding computed
returns-in-188 c = arm 188 _ _ c.in-188.is refl

pub returns-in-189 : goal.returns-in-189
unfolding computed
returns-in-189 c = arm 189 _ _ c.in-189.is refl

pub returns-in-190 : goal.returns-in-190
unfolding computed
returns-in-190 c = arm 190 _ _ c.in-190.is refl

pub returns-in-191 : goal.returns-in-191
unfolding computed
returns-in-191 c = arm 191 _ _ c.in-191.is refl

pub returns-in-192 : goal.returns-in-192
unfolding computed
returns-in-192 c = arm 192 _ _ c.in-192.is refl

pub returns-in-193 : goal.returns-in-193
unfolding computed
returns-in-193 c = arm 193 _ _ c.in-193.is refl

pub returns-in-194 : goal.returns-in-194
unfolding computed
returns-in-194 c = arm 194 _ _ c.in-194.is refl

pub returns-in-195 : goal.returns-in-195
unfolding computed
returns-in-195 c = arm 195 _ _ c.in-195.is refl

pub returns-in-196 : goal.returns-in-196
unfolding computed
returns-in-196 c = arm 196 _ _ c.in-196.is refl

pub returns-in-197 : goal.returns-in-197
unfolding computed
returns-in-197 c = arm 197 _ _ c.in-197.is refl

pub returns-in-198 : goal.returns-in-198
unfolding computed
returns-in-198 c = arm 198 _ _ c.in-198.is refl

pub returns-in-199 : goal.returns-in-199
unfolding computed
returns-in-199 c = arm 199 _ _ c.in-199.is refl

pub returns-in-200 : goal.returns-in-200
unfolding computed
returns-in-200 c = arm 200 _ _ c.in-200.is refl

pub returns-in-201 : goal.returns-in-201
unfolding computed
returns-in-201 c = arm 201 _ _ c.in-201.is refl

pub returns-in-202 : goal.returns-in-202
unfolding computed
returns-in-202 c = arm 202 _ _ c.in-202.is refl

pub returns-in-203 : goal.returns-in-203
unfolding computed
returns-in-203 c = arm 203 _ _ c.in-203.is refl

pub returns-in-204 : goal.returns-in-204
unfolding computed
returns-in-204 c = arm 204 _ _ c.in-204.is refl

pub returns-in-205 : goal.returns-in-205
unfolding computed
returns-in-205 c = arm 205 _ _ c.in-205.is refl

pub returns-in-206 : goal.returns-in-206
unfolding computed
returns-in-206 c = arm 206 _ _ c.in-206.is refl

pub returns-in-207 : goal.returns-in-207
unfolding computed
returns-in-207 c = arm 207 _ _ c.in-207.is refl

pub returns-in-208 : goal.returns-in-208
unfolding computed
returns-in-208 c = arm 208 _ _ c.in-208.is refl

pub returns-in-209 : goal.returns-in-209
unfolding computed
returns-in-209 c = arm 209 _ _ c.in-209.is refl

pub returns-in-210 : goal.returns-in-210
unfolding computed
returns-in-210 c = arm 210 _ _ c.in-210.is refl

pub returns-in-211 : goal.returns-in-211
unfolding computed
returns-in-211 c = arm 211 _ _ c.in-211.is refl

pub returns-in-212 : goal.returns-in-212
unfolding computed
returns-in-212 c = arm 212 _ _ c.in-212.is refl

pub returns-in-213 : goal.returns-in-213
unfolding computed
returns-in-213 c = arm 213 _ _ c.in-213.is refl

pub returns-in-214 : goal.returns-in-214
unfolding computed
returns-in-214 c = arm 214 _ _ c.in-214.is refl

pub returns-in-215 : goal.returns-in-215
unfolding computed
returns-in-215 c = arm 215 _ _ c.in-215.is refl

pub returns-in-216 : goal.returns-in-216
unfolding computed
returns-in-216 c = arm 216 _ _ c.in-216.is refl

pub returns-in-217 : goal.returns-in-217
unfolding computed
returns-in-217 c = arm 217 _ _ c.in-217.is refl

pub returns-in-218 : goal.returns-in-218
unfolding computed
returns-in-218 c = arm 218 _ _ c.in-218.is refl

pub returns-in-219 : goal.returns-in-219
unfolding computed
returns-in-219 c = arm 219 _ _ c.in-219.is refl

pub returns-in-220 : goal.returns-in-220
unfolding computed
returns-in-220 c = arm 220 _ _ c.in-220.is refl

pub returns-in-221 : goal.returns-in-221
unfolding computed
returns-in-221 c = arm 221 _ _ c.in-221.is refl

pub returns-in-222 : goal.returns-in-222
unfolding computed
returns-in-222 c = arm 222 _ _ c.in-222.is refl

pub returns-in-223 : goal.returns-in-223
unfolding computed
returns-in-223 c = arm 223 _ _ c.in-223.is refl

pub returns-in-224 : goal.returns-in-224
unfolding computed
returns-in-224 c = arm 224 _ _ c.in-224.is refl

pub returns-in-225 : goal.returns-in-225
unfolding computed
returns-in-225 c = arm 225 _ _ c.in-225.is refl

pub returns-in-226 : goal.returns-in-226
unfolding computed
returns-in-226 c = arm 226 _ _ c.in-226.is refl

pub returns-in-227 : goal.returns-in-227
unfolding computed
returns-in-227 c = arm 227 _ _ c.in-227.is refl

pub returns-in-228 : goal.returns-in-228
unfolding computed
returns-in-228 c = arm 228 _ _ c.in-228.is refl

pub returns-in-229 : goal.returns-in-229
unfolding computed
returns-in-229 c = arm 229 _ _ c.in-229.is refl

pub returns-in-230 : goal.returns-in-230
unfolding computed
returns-in-230 c = arm 230 _ _ c.in-230.is refl

pub returns-in-231 : goal.returns-in-231
unfolding computed
returns-in-231 c = arm 231 _ _ c.in-231.is refl

pub returns-in-232 : goal.returns-in-232
unfolding computed
returns-in-232 c = arm 232 _ _ c.in-232.is refl

pub returns-in-233 : goal.returns-in-233
unfolding computed
returns-in-233 c = arm 233 _ _ c.in-233.is refl

pub returns-in-234 : goal.returns-in-234
unfolding computed
returns-in-234 c = arm 234 _ _ c.in-234.is refl

pub returns-in-235 : goal.returns-in-235
unfolding computed
returns-in-235 c = arm 235 _ _ c.in-235.is refl

pub returns-in-236 : goal.returns-in-236
unfolding computed
returns-in-236 c = arm 236 _ _ c.in-236.is refl

pub returns-in-237 : goal.returns-in-237
unfolding computed
returns-in-237 c = arm 237 _ _ c.in-237.is refl

pub returns-in-238 : goal.returns-in-238
unfolding computed
returns-in-238 c = arm 238 _ _ c.in-238.is refl

pub returns-in-239 : goal.returns-in-239
unfolding computed
returns-in-239 c = arm 239 _ _ c.in-239.is refl

pub returns-in-240 : goal.returns-in-240
unfolding computed
returns-in-240 c = arm 240 _ _ c.in-240.is refl

pub returns-in-241 : goal.returns-in-241
unfolding computed
returns-in-241 c = arm 241 _ _ c.in-241.is refl

pub returns-in-242 : goal.returns-in-242
unfolding computed
returns-in-242 c = arm 242 _ _ c.in-242.is refl

pub returns-in-243 : goal.returns-in-243
unfolding computed
returns-in-243 c = arm 243 _ _ c.in-243.is refl

pub returns-in-244 : goal.returns-in-244
unfolding computed
returns-in-244 c = arm 244 _ _ c.in-244.is refl

pub returns-in-245 : goal.returns-in-245
unfolding computed
returns-in-245 c = arm 245 _ _ c.in-245.is refl

pub returns-in-246 : goal.returns-in-246
unfolding computed
returns-in-246 c = arm 246 _ _ c.in-246.is refl

pub returns-in-247 : goal.returns-in-247
unfolding computed
returns-in-247 c = arm 247 _ _ c.in-247.is refl

pub returns-in-248 : goal.returns-in-248
unfolding computed
returns-in-248 c = arm 248 _ _ c.in-248.is refl

pub returns-in-249 : goal.returns-in-249
unfolding computed
returns-in-249 c = arm 249 _ _ c.in-249.is refl

pub returns-in-250 : goal.returns-in-250
unfolding computed
returns-in-250 c = arm 250 _ _ c.in-250.is refl

pub returns-in-251 : goal.returns-in-251
unfolding computed
returns-in-251 c = arm 251 _ _ c.in-251.is refl

pub returns-in-252 : goal.returns-in-252
unfolding computed
returns-in-252 c = arm 252 _ _ c.in-252.is refl

pub returns-in-253 : goal.returns-in-253
unfolding computed
returns-in-253 c = arm 253 _ _ c.in-253.is refl

pub returns-in-254 : goal.returns-in-254
unfolding computed
returns-in-254 c = arm 254 _ _ c.in-254.is refl
