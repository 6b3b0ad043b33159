mod Plainness
