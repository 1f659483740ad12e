mod TwoRows
